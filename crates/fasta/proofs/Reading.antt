-- The letters of lines, stored as the lines are read.
-- Assumes nothing.
use Rattle.std.proofs.Common.{◌≡◌, refl, sym, ap, ◌∙◌, List, [], ◌∷◌, length, get_or, set, drop, drop-cons, drop_of_length-le}
use Rattle.std.proofs.Common.{ℕ, ◌+◌, ◌≤◌, ◌<◌, arith, add-one, length-set}
use Rattle.answer.specs.AfterCall.{written}
use Rattle.answer.specs.Content.{Pending}
use Rattle.answer.specs.ContentLaws.{pending_all, pending_rest, pending_none, written_one, written_whole}
use Rattle.fasta_record.specs.declared.bytes.Kind.{Kind}
use Rattle.fasta_record.specs.declared.bytes.Kind.TheVariants.{Letter, LineEnd, CarriageReturn, HeaderMark, Unfit}
use Rattle.fasta_record.specs.Bytes.{kind_of, letter_of}
use Rattle.fasta.specs.Letters.{letter_before, letters_in}

-- The letters from place i of the lines on are pending behind the `count` letters that the buffer holds, and fit it.
pub record Storing (lines before now : List ℕ) (i count : ℕ) : Type 0 where
  pub size : length now ≡ length before
  pub room : count + length (letters_in (drop i lines)) ≤ length before
  pub pending : Pending now count (letters_in (drop i lines)) before 0 (letters_in lines)

-- A byte that is no letter adds none.
none_before : (k : Kind) (b : ℕ) (l : List ℕ) → ¬ (k ≡ Letter) → letter_before k b l ≡ l
none_before Letter b l n = absurd (n refl)
none_before LineEnd b l n = refl
none_before CarriageReturn b l n = refl
none_before HeaderMark b l n = refl
none_before Unfit b l n = refl

-- At first no letter is stored.
pub none_stored : (x before : List ℕ) → length (letters_in x) ≤ length before → Storing x before before 0 0
none_stored x before h = record { size = refl; room = omega (arith, h); pending = pending_all before 0 (letters_in x) }

module _ {x before now : List ℕ} {i count : ℕ} (w : Storing x before now i count) where
  module _ (h : i < length x) {k : Kind} (kind : k ≡ kind_of (get_or x i 0)) where
    letters_at : letters_in (drop i x) ≡ letter_before k (get_or x i 0) (letters_in (drop (i + 1) x))
    letters_at = rw (drop-cons x i 0 h, add-one i, kind) refl

    module _ (is : k ≡ Letter) where
      letter_at : letters_in (drop i x) ≡ letter_of (get_or x i 0) ∷ letters_in (drop (i + 1) x)
      letter_at = letters_at ∙ ap (λ (k : Kind). letter_before k (get_or x i 0) (letters_in (drop (i + 1) x))) is

      -- A letter has its place,
      pub letter_fits : count < length now
      letter_fits = omega (arith, w.room, w.size, ap length letter_at)

      -- and is stored there.
      pub letter_stored : {v : ℕ} → v ≡ letter_of (get_or x i 0) → Storing x before (set now count v) (i + 1) (count + 1)
      letter_stored {v} e =
          record {
            size = length-set now count v ∙ w.size;
            room = omega (arith, w.room, ap length letter_at);
            pending = pending_rest (rw (letter_at, sym e) at w.pending) (written_one now count v letter_fits);
          }

    -- Any other byte is passed over.
    pub other_passed : ¬ (k ≡ Letter) → Storing x before now (i + 1) count
    other_passed n =
        let rest : letters_in (drop i x) ≡ letters_in (drop (i + 1) x) = letters_at ∙ none_before k (get_or x i 0) (letters_in (drop (i + 1) x)) n in
        record { size = w.size; room = rw rest at w.room; pending = rw rest at w.pending }

  -- All lines are read.
  pub all_stored : length x ≤ i → now ≡ written (letters_in x) before
  all_stored h =
      let none : letters_in (drop i x) ≡ [] = rw (drop_of_length-le x h) refl in
      written_whole (pending_none (rw none at w.pending) (omega (arith, w.room, w.size)))
