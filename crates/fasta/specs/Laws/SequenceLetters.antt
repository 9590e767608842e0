-- The letters of the sequence lines, position by position.
-- Assumes nothing.
use Rattle.std.specs.Prelude.{◌≡◌, refl, ℕ, suc, ◌+◌, ◌≤◌, ◌<◌, length, get_or, take, drop}
use Rattle.std.proofs.Common.{ap, ◌∙◌, arith, length-append, length-take, drop_of_length-le, take-suc}
use Rattle.std.proofs.Math.Logic.{ite}
use mathlib.Core.List.{List, [], ◌∷◌, map, filter, filter-append}
use Rattle.std.proofs.lemmas.List.{drop-append-le}
use Rattle.fasta_record.specs.declared.bytes.Kind.{Kind}
use Rattle.fasta_record.specs.declared.bytes.Kind.TheVariants.{Letter, LineEnd, CarriageReturn, HeaderMark, Unfit}
use Rattle.fasta_record.specs.Bytes.{kind_of, letter_of}
use Rattle.fasta.specs.Classes.{IsLetter, letter?}
use Rattle.fasta.specs.Letters.{letter_before, letters_in}
use Rattle.fasta.specs.Rows.{sequence_letters}
use Rattle.fasta.specs.Laws.Classes.{KindSays, kind_says, letter_other}

-- The letters of lines are what is handed on for those of their bytes that are letters.
pub letters_filtered : (s : List ℕ) → letters_in s ≡ map letter_of (filter letter? s)
letters_filtered [] = refl
letters_filtered (b ∷ s) = go (kind_of b) (letter? b) (kind_says b) (letters_filtered s)
  where
    go : (k : Kind) (d : Dec (IsLetter b)) → KindSays b k → letters_in s ≡ map letter_of (filter letter? s)
        → letter_before k b (letters_in s) ≡ map letter_of (ite {C = List ℕ} d (b ∷ filter letter? s) (filter letter? s))
    go Letter (yes l) h e = ap (λ (m : List ℕ). letter_of b ∷ m) e
    go Letter (no n) h e = absurd (n h)
    go LineEnd (yes l) h e = absurd (letter_other b 10 (omega arith) l h)
    go LineEnd (no n) h e = e
    go CarriageReturn (yes l) h e = absurd (letter_other b 13 (omega arith) l h)
    go CarriageReturn (no n) h e = e
    go HeaderMark (yes l) h e = absurd (letter_other b 62 (omega arith) l h)
    go HeaderMark (no n) h e = e
    go Unfit (yes l) h e = absurd (h.0 l)
    go Unfit (no n) h e = e

-- No letter stands before the sequence lines.
pub letters_none : (x : List ℕ) (e p : ℕ) → p ≤ suc e → sequence_letters (take p x) e ≡ []
letters_none x e p h = rw (drop_of_length-le (take p x) {i = suc e} (omega (arith, length-take p x)))

-- One byte has one letter or none.
letter_alone : (b : ℕ) → IsLetter b → length (filter letter? (b ∷ [])) ≡ 1
letter_alone b l = go (letter? b)
  where
    go : (d : Dec (IsLetter b)) → length (ite {C = List ℕ} d (b ∷ []) []) ≡ 1
    go (yes m) = refl
    go (no n) = absurd (n l)

other_alone : (b : ℕ) → ¬ IsLetter b → length (filter letter? (b ∷ [])) ≡ 0
other_alone b n = go (letter? b)
  where
    go : (d : Dec (IsLetter b)) → length (ite {C = List ℕ} d (b ∷ []) []) ≡ 0
    go (yes l) = absurd (n l)
    go (no m) = refl

module _ (x : List ℕ) (e p : ℕ) (behind : e < p) (inside : p < length x) where
  -- One position more.
  letters_next :
      length (sequence_letters (take (suc p) x) e) ≡ length (sequence_letters (take p x) e) + length (filter letter? (get_or x p 0 ∷ []))
  letters_next =
      rw (take-suc x p 0 inside, drop-append-le (suc e) (take p x) (get_or x p 0 ∷ []) (omega (arith, length-take p x)))
      (ap length (filter-append letter? (drop (suc e) (take p x)) (get_or x p 0 ∷ []))
      ∙ length-append (sequence_letters (take p x) e) (filter letter? (get_or x p 0 ∷ [])))

  -- It has a letter.
  pub letters_more : IsLetter (get_or x p 0) → length (sequence_letters (take (suc p) x) e) ≡ suc (length (sequence_letters (take p x) e))
  letters_more l = omega (arith, letters_next, letter_alone (get_or x p 0) l)

  -- It has none.
  pub letters_same : ¬ IsLetter (get_or x p 0) → length (sequence_letters (take (suc p) x) e) ≡ length (sequence_letters (take p x) e)
  letters_same n = omega (arith, letters_next, other_alone (get_or x p 0) n)
