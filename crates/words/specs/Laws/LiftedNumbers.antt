-- Numbers as letters of any universe.
-- Assumes nothing.
use Rattle.std.specs.Prelude.{◌≡◌, refl, List, [], ◌∷◌, ℕ, zero, suc, ◌<◌, length}
use Rattle.std.proofs.Common.{sym, ap, ◌∙◌, arith}
use Rattle.std.proofs.Math.Logic.{Lift}
use Rattle.words.specs.Letters.{Letters, rising, number_not_neither, number_not_both, number_chain}
use Rattle.words.specs.LyndonArray.{IsLyndonArray}
use Rattle.words.specs.Laws.SpanLyndon.{letters}
use Rattle.words.specs.Laws.OrderedAlike.{OrderedAlike, alike_array}

-- A number as a letter of level ℓ.
abbrev pub LiftedNumber {ℓ} : Type ℓ
LiftedNumber = Lift {0, ℓ} ℕ

pub lifted_injective {ℓ} : (a b : LiftedNumber {ℓ}) → a.lower ≡ b.lower → a ≡ b
lifted_injective a b e = λ i. record { lower = e i }

-- They are compared by size, whatever the level of the order.
abbrev pub lifted_rising {ℓ κ} : Letters {ℓ, κ} (LiftedNumber {ℓ})
lifted_rising =
    record {
      Before = λ a b. Lift {0, κ} (a.lower < b.lower);
      not_neither =
          λ a b d p.
          number_not_neither a.lower b.lower (λ e. d (lifted_injective a b e))
          (λ h. p.0 (record { lower = h }), λ h. p.1 (record { lower = h }));
      not_both =
          λ a b d p. number_not_both a.lower b.lower (λ e. d (lifted_injective a b e)) (p.0.lower, p.1.lower);
      chain = λ a b c h k. record { lower = number_chain a.lower b.lower c.lower h.lower k.lower };
    }

-- The letters of a text of numbers, lifted.
abbrev pub lifted_text {ℓ} : List ℕ → List (LiftedNumber {ℓ})
lifted_text [] = []
lifted_text (a ∷ x) = record { lower = a } ∷ lifted_text x

lifted_length {ℓ} : (x : List ℕ) → length (lifted_text {ℓ} x) ≡ length x
lifted_length [] = refl
lifted_length (a ∷ x) = ap suc (lifted_length x)

lifted_letter {ℓ} : (x : List ℕ) (i : ℕ) → (letters (record { lower = 0 }) (lifted_text {ℓ} x) i).lower ≡ letters 0 x i
lifted_letter [] i = refl
lifted_letter (a ∷ x) zero = refl
lifted_letter (a ∷ x) (suc i) = lifted_letter x i

-- The letters of a lifted text compare as those of the text.
lifted_alike {ℓ κ} : (x : List ℕ) → OrderedAlike rising (lifted_rising {ℓ, κ}) 0 (record { lower = 0 }) x (lifted_text x)
lifted_alike x =
    record {
      size = lifted_length x;
      there =
          record {
            equal = λ i j h l e. lifted_injective (at i) (at j) (lifted_letter x i ∙ e ∙ sym (lifted_letter x j));
            smaller =
                λ i j h l s. (
                  λ e. s.0 (sym (lifted_letter x i) ∙ ap (λ (c : LiftedNumber {ℓ}). c.lower) e ∙ lifted_letter x j),
                  record { lower = omega (arith, lifted_letter {ℓ} x i, lifted_letter {ℓ} x j, s.1) },
                );
          };
      back =
          record {
            equal = λ i j h l e. sym (lifted_letter x i) ∙ ap (λ (c : LiftedNumber {ℓ}). c.lower) e ∙ lifted_letter x j;
            smaller =
                λ i j h l s. (
                  λ e. s.0 (lifted_injective (at i) (at j) (lifted_letter x i ∙ e ∙ sym (lifted_letter x j))),
                  omega (arith, lifted_letter {ℓ} x i, lifted_letter {ℓ} x j, s.1.lower),
                );
          };
    }
  where
    at : ℕ → LiftedNumber {ℓ}
    at i = letters (record { lower = 0 }) (lifted_text x) i

-- A lifted text has the array of the text.
pub lifted_array {ℓ κ} : (x a : List ℕ) → IsLyndonArray rising x a → IsLyndonArray (lifted_rising {ℓ, κ}) (lifted_text x) a
lifted_array x a h = alike_array (lifted_alike {ℓ, κ} x) a h
