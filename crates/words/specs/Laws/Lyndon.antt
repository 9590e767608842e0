-- One letter is a Lyndon word, with no comparison decided, and tests of the spans of a text that pass at its Lyndon words.
-- Assumes nothing.
use Rattle.std.specs.Prelude.{◌≡◌, refl, ◌↔◌, Bool, ℕ, zero, suc, ◌<◌, ◌≤◌, T, length}
use Rattle.std.proofs.Common.{ap, arith, length-append}
use mathlib.Core.List.{List, [], ◌∷◌, ◌++◌, cons≢nil}
use Rattle.words.specs.Letters.{Letters}
use Rattle.words.specs.Word.{Less, span}
use Rattle.words.specs.Lyndon.{Lyndon}

-- One letter is a Lyndon word (document 01, "The words used").
pub letter_lyndon {ℓ κ} : {A : Type ℓ} (O : Letters {ℓ, κ} A) (a : A) → Lyndon O (a ∷ [])
letter_lyndon {A} O a = record { non_empty = cons≢nil; smaller = smaller }
  where
    smaller : (u v : List A) → a ∷ [] ≡ u ++ v → ¬ (u ≡ []) → ¬ (v ≡ []) → Less O (a ∷ []) v
    smaller [] v e c d = absurd (c refl)
    smaller (b ∷ u) [] e c d = absurd (d refl)
    smaller (b ∷ u) (k ∷ v) e c d = absurd (omega (arith, ap length e, length-append u (k ∷ v)))

-- One letter of a text is a Lyndon word.
pub letter_span_lyndon {ℓ κ} : {A : Type ℓ} (O : Letters {ℓ, κ} A) (x : List A) (i : ℕ) → i < length x → Lyndon O (span i (suc i) x)
letter_span_lyndon O [] i h = absurd (omega arith)
letter_span_lyndon O (a ∷ x) zero h = letter_lyndon O a
letter_span_lyndon O (a ∷ x) (suc i) h = letter_span_lyndon O x i (omega arith)

-- A test of the spans of x that passes exactly at Lyndon words.
pub record LyndonTest {ℓ κ} {A : Type ℓ} (O : Letters {ℓ, κ} A) (x : List A) : Type (ℓ ⊔ κ) where
  pub test : ℕ → ℕ → Bool
  pub right : (a b : ℕ) → b ≤ length x → T (test a b) ↔ Lyndon O (span a b x)

-- The test passes at one letter.
pub test_letter {ℓ κ} : {A : Type ℓ} {O : Letters {ℓ, κ} A} {x : List A} (t : LyndonTest O x) (i : ℕ) → i < length x → T (t.test i (suc i))
test_letter {O = O} {x = x} t i h = (t.right i (suc i) h).1 (letter_span_lyndon O x i h)
