-- Words cut in two again and again, and the two lists that record the cuts.
-- Assumes nothing.
use Rattle.std.specs.Prelude.{◌≡◌, List, [], ◌∷◌, ◌++◌, ℕ, suc, ◌<◌, length, get_or}
use Rattle.words.specs.Letters.{Letters}
use Rattle.words.specs.Factorization.{IsFactorization}

-- The span from a to b is one letter, or is cut before c as the rule says, and both parts are cut likewise.
pub data CutTree {ρ} (Rule : ℕ → ℕ → ℕ → Type ρ) : ℕ → ℕ → Type ρ where
  letter : {a b : ℕ} → b ≡ suc a → CutTree Rule a b
  cut : {a b : ℕ} (c : ℕ) → Rule a c b → CutTree Rule a c → CutTree Rule c b → CutTree Rule a b

-- The positions before which the tree is cut, from left to right.
abbrev pub cuts {ρ} : {Rule : ℕ → ℕ → ℕ → Type ρ} {a b : ℕ} → CutTree Rule a b → List ℕ
cuts (letter e) = []
cuts (cut c r u v) = cuts u ++ (c ∷ cuts v)

-- FIRST and PAST hold what document 01 says of each cut of the tree: before c, FIRST holds the start of u and PAST the end of v's span.
abbrev pub Recorded {ρ} : {Rule : ℕ → ℕ → ℕ → Type ρ} {a b : ℕ} → List ℕ → List ℕ → CutTree Rule a b → Type 0
Recorded first past (letter e) = Unit {0}
Recorded first past (cut {a = a} {b = b} c r u v) =
    (get_or first c 0 ≡ a) × (get_or past c 0 ≡ b) × Recorded first past u × Recorded first past v

-- One factor of the forest: its start holds itself in both lists, and its cuts are recorded.
pub record Tree {ρ} (Rule : ℕ → ℕ → ℕ → Type ρ) (first past : List ℕ) (a b : ℕ) : Type ρ where
  pub own_first : get_or first a 0 ≡ a
  pub own_past : get_or past a 0 ≡ a
  pub tree : CutTree Rule a b
  pub recorded : Recorded first past tree

-- FIRST and PAST are the forest of x under a rule of cutting (document 01, "The calls"): one tree for each factor. Factor k starts at
-- entry k of the starts and ends at entry k + 1 of them, where the next one starts; for the last factor there is no such entry, and
-- `get_or starts (suc k) (length x)` is then the end of the text.
pub record IsForest {ℓ κ ρ} {A : Type ℓ} (O : Letters {ℓ, κ} A) (Rule : ℕ → ℕ → ℕ → Type ρ) (x : List A) (first past : List ℕ) : Type (ℓ ⊔ κ ⊔ ρ) where
  pub first_size : length first ≡ length x
  pub past_size : length past ≡ length x
  pub starts : List ℕ
  pub factorization : IsFactorization O x starts
  pub factor : (k : ℕ) → k < length starts → Tree Rule first past (get_or starts k 0) (get_or starts (suc k) (length x))
