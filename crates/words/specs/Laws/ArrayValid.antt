-- The Lyndon array of a text is a valid array. No comparison is decided: that spans do not cross is a negation.
-- Assumes nothing.
use Rattle.std.specs.Prelude.{List, [], ◌∷◌, ℕ, ◌+◌, ◌<◌, length, get_or}
use Rattle.std.proofs.Common.{arith}
use Rattle.words.specs.Letters.{Letters}
use Rattle.words.specs.LyndonArray.{LongestFrom, IsLyndonArray}
use Rattle.words.specs.ValidArray.{InRange, Crosses, Valid}
use Rattle.words.specs.Laws.SpanLyndon.{letters, lyndon_span}
use Rattle.words.specs.Laws.NextSmaller.{next_nests}
use Rattle.words.specs.Laws.Compared.{AllCompared, all_compared_irrefutable}
use Rattle.words.specs.Laws.ArrayNext.{array_next}

module _ {ℓ κ} {A : Type ℓ} (O : Letters {ℓ, κ} A) (z : A) (x : List A) (a : List ℕ) (h : IsLyndonArray O x a) where
  entries_in_range : (i : ℕ) → i < length a → InRange a i
  entries_in_range i l =
      let e : LongestFrom O x i (get_or a i 0) = h.entry i (omega (arith, h.size)) in
      record {
        positive = omega (arith, (lyndon_span O z x i (i + get_or a i 0) e.fits e.lyndon).non_empty);
        fits = omega (arith, e.fits, h.size);
      }

  spans_nest : AllCompared O (letters z x) (length x) → (j : ℕ) → j < length a → ¬ Crosses a j
  spans_nest compared j l c =
      let i : ℕ = c.earlier in
      let n : j < length x = omega (arith, h.size) in
      let leads = array_next O z x compared a h in
      omega (
        arith,
        next_nests O (letters z x) (length x) i (i + get_or a i 0) j (j + get_or a j 0) (leads i (omega (arith, c.before))) c.before c.holds (leads j n),
        c.past,
      )

  valid_at : Valid a
  valid_at =
      record {
        in_range = entries_in_range;
        nested = λ j l c. all_compared_irrefutable O (letters z x) (length x) (λ compared. spans_nest compared j l c);
      }

-- An array that a text over any ordered letters has is valid.
pub array_valid {ℓ κ} : {A : Type ℓ} (O : Letters {ℓ, κ} A) (x : List A) (a : List ℕ) → IsLyndonArray O x a → Valid a
array_valid O [] a h =
    record { in_range = λ i l. absurd (omega (arith, h.size)); nested = λ j l c. absurd (omega (arith, h.size)) }
array_valid O (c ∷ x) a h = valid_at O c (c ∷ x) a h
