-- The left forest of a text computed from the starts of its factors, for letters whose comparisons are decided.
-- Assumes nothing.
use Rattle.std.specs.Prelude.{true, false, List, [], ◌∷◌, ◌++◌, ℕ, zero, suc, length, get_or, ltb}
use Rattle.words.specs.Letters.{Letters}
use Rattle.words.specs.Decided.{Decided}
use Rattle.words.specs.Word.{span}
use Rattle.words.specs.Compute.Lyndon.{lyndonb}
use Rattle.words.specs.Compute.Search.{greatest_below}

-- What FIRST records of a cut of the span from a to b.
abbrev pub first_of : ℕ → ℕ → ℕ
first_of a b = a

-- What PAST records of a cut of the span from a to b.
abbrev pub past_of : ℕ → ℕ → ℕ
past_of a b = b

-- What is recorded of the positions strictly inside the span from a to b, from left to right: its cut stands between those of the two
-- parts. d is at least the length of the span.
abbrev pub records_of : (ℕ → ℕ → ℕ) → (ℕ → ℕ → ℕ) → ℕ → ℕ → ℕ → List ℕ
records_of cut_at note zero a b = []
records_of cut_at note (suc d) a b =
    elim (ltb (suc a) b) [
      | true ↦ let c = cut_at a b in records_of cut_at note d a c ++ (note a b ∷ records_of cut_at note d c b)
      | false ↦ []
    ]

-- What is recorded of the positions of a text of length n whose factors start at s: of a start the start itself, of any other position
-- its cut.
abbrev pub forest_of : (ℕ → ℕ → ℕ) → (ℕ → ℕ → ℕ) → ℕ → List ℕ → List ℕ
forest_of cut_at note n [] = []
forest_of cut_at note n (a ∷ s) = a ∷ (records_of cut_at note n a (get_or s 0 n) ++ forest_of cut_at note n s)

-- The end of the longest proper Lyndon prefix of the span from a to b.
abbrev pub left_cut_at {ℓ κ} : {A : Type ℓ} {O : Letters {ℓ, κ} A} → Decided O → List A → ℕ → ℕ → ℕ
left_cut_at D x a b = greatest_below (λ k. lyndonb D (span a k x)) b

-- FIRST of the left forest of x, whose factors start at s.
abbrev pub left_first_of {ℓ κ} : {A : Type ℓ} {O : Letters {ℓ, κ} A} → Decided O → List A → List ℕ → List ℕ
left_first_of D x s = forest_of (left_cut_at D x) first_of (length x) s

-- PAST of the left forest of x, whose factors start at s.
abbrev pub left_past_of {ℓ κ} : {A : Type ℓ} {O : Letters {ℓ, κ} A} → Decided O → List A → List ℕ → List ℕ
left_past_of D x s = forest_of (left_cut_at D x) past_of (length x) s
