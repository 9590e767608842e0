-- What follows the end of a record's header line.
-- Assumes nothing.
use Rattle.std.specs.Prelude.{◌≡◌, refl, Bool, true, false, cond, ◌⊎◌, ℕ, zero, suc, ◌+◌, ◌-◌, ◌≤◌, ◌<◌, eqb, length, get_or, drop}
use Rattle.std.proofs.Common.{ap, ◌∙◌, inl, inr, arith, eqb-true, drop_of_length-le, drop-cons}
use mathlib.Core.List.{List, map, filter}
use Rattle.std.proofs.lemmas.Bool.{eqb-false}
use Rattle.words.specs.Laws.Numbers.{below_suc}
use Rattle.answer.specs.declared.Reason.{Reason}
use Rattle.fasta_record.specs.Bytes.{letter_of, line_end}
use Rattle.fasta.specs.Classes.{letter?}
use Rattle.fasta_record.specs.Lines.{after_line, lines_from}
use Rattle.fasta_record.specs.Record.{lines_start}
use Rattle.fasta.specs.Reader.{record_letters}
use Rattle.fasta.specs.Rows.{Stands, HeaderEnds, InLines, sequence_letters, LineRow, unfit_byte, second_record, letter_too_many}
use Rattle.fasta.specs.Laws.SequenceLetters.{letters_filtered, letters_none}
use Rattle.fasta.specs.Laws.LineRows.{LinesSay, lines_say}

-- A header line ends within the input.
header_within : {x : List ℕ} {s e : ℕ} → HeaderEnds x s e → e ≤ length x
header_within {x} {s} {e} h = go h.here
  where
    go : (e ≡ length x) ⊎ Stands x e line_end → e ≤ length x
    go (inl z) = omega arith
    go (inr z) = omega (arith, z.inside)

-- No header line ends before another.
header_least : {x : List ℕ} {s e f : ℕ} → HeaderEnds x s e → HeaderEnds x s f → ¬ (e < f)
header_least {x} {s} {e} {f} h k l = go h.here
  where
    go : (e ≡ length x) ⊎ Stands x e line_end → ⊥
    go (inl z) = omega (arith, header_within k)
    go (inr z) = k.no_earlier e h.from l z.byte

-- A header line ends at one position.
pub header_unique : {x : List ℕ} {s e f : ℕ} → HeaderEnds x s e → HeaderEnds x s f → e ≡ f
header_unique h k = omega (arith, header_least h k, header_least k h)

-- The sequence lines behind the header line of the record that starts at s begin at q.
pub record LinesBegin (x : List ℕ) (s q : ℕ) : Type 0 where
  pub header_end : ℕ
  pub ends : HeaderEnds x s header_end
  pub place : ((header_end ≡ length x) × (q ≡ length x)) ⊎ ((Stands x header_end line_end) × (q ≡ suc header_end))

-- The header line from p on, over d bytes.
line_says :
    (x : List ℕ) (s d p : ℕ) → p + d ≡ length x → s ≤ p → ((k : ℕ) → k < p → s ≤ k → ¬ (get_or x k 0 ≡ line_end))
    → LinesBegin x s (after_line p (drop p x))
line_says x s zero p h l none =
    rw (drop_of_length-le x {i = p} (omega arith))
    (record {
      header_end = p;
      ends = record { from = l; no_earlier = λ k i j. none k j i; here = inl (omega arith) };
      place = inl (omega arith, omega arith);
    })
line_says x s (suc d) p h l none =
    rw (drop-cons x p 0 (omega arith)) (go (eqb (get_or x p 0) line_end) refl (line_says x s d (suc p) (omega arith) (omega arith)))
  where
    go : (t : Bool) → eqb (get_or x p 0) line_end ≡ t
        → (((k : ℕ) → k < suc p → s ≤ k → ¬ (get_or x k 0 ≡ line_end)) → LinesBegin x s (after_line (suc p) (drop (suc p) x)))
        → LinesBegin x s (cond t (suc p) (after_line (suc p) (drop (suc p) x)))
    go true e rest =
        let end : Stands x p line_end = record { inside = omega arith; byte = eqb-true (get_or x p 0) line_end e } in
        record {
          header_end = p;
          ends = record { from = l; no_earlier = λ k i j. none k j i; here = inr end };
          place = inr (end, refl);
        }
    go false e rest = rest (below_suc (λ k. s ≤ k → ¬ (get_or x k 0 ≡ line_end)) p none (λ i. eqb-false (get_or x p 0) line_end e))

-- Where the sequence lines begin of the record that starts at s.
pub lines_begin : (x : List ℕ) (s : ℕ) → s ≤ length x → LinesBegin x s (lines_start x s)
lines_begin x s h = line_says x s (length x - s) s (omega arith) (omega arith) (λ k i j. absurd (omega arith))

-- The bytes of the sequence lines.
pub lines_bytes : {x : List ℕ} {s q : ℕ} (b : LinesBegin x s q) → drop q x ≡ drop (suc b.header_end) x
lines_bytes {x} {s} {q} b = go b.place
  where
    go : ((b.header_end ≡ length x) × (q ≡ length x)) ⊎ ((Stands x b.header_end line_end) × (q ≡ suc b.header_end))
        → drop q x ≡ drop (suc b.header_end) x
    go (inl z) = rw (drop_of_length-le x {i = q} (omega arith), drop_of_length-le x {i = suc b.header_end} (omega arith))
    go (inr z) = rw z.1

-- The letters of a record that is the input's last are what is handed on for those of its sequence lines.
pub record_letters_lem :
    (x : List ℕ) (s e : ℕ) → s ≤ length x → HeaderEnds x s e → record_letters x s ≡ map letter_of (sequence_letters x e)
record_letters_lem x s e h ends =
    let b : LinesBegin x s (lines_start x s) = lines_begin x s h in
    letters_filtered (drop (lines_start x s) x)
    ∙ ap (λ (l : List ℕ). map letter_of (filter letter? l)) (lines_bytes b)
    ∙ ap (λ (f : ℕ). map letter_of (sequence_letters x f)) (header_unique b.ends ends)

-- A position at which the condition of a row holds is one of the lines.
pub row_in_lines : {x : List ℕ} {e p : ℕ} {r : Reason} → LineRow x e r p → InLines x e p
row_in_lines (unfit_byte i u) = i
row_in_lines (second_record i b l) = i
row_in_lines (letter_too_many i l c) = i

-- The pass over the sequence lines.
pub header_lines_say : {x : List ℕ} {s q : ℕ} (b : LinesBegin x s q) → LinesSay x b.header_end (lines_from q false 0 (drop q x))
header_lines_say {x} {s} {q} b = go b.place
  where
    go : ((b.header_end ≡ length x) × (q ≡ length x)) ⊎ ((Stands x b.header_end line_end) × (q ≡ suc b.header_end))
        → LinesSay x b.header_end (lines_from q false 0 (drop q x))
    go (inl z) =
        rw (drop_of_length-le x {i = q} (omega arith))
        (z.1, (λ k l r w. omega (arith, row_in_lines w)), rw (letters_none x b.header_end q (omega arith)))
    go (inr z) =
        let i : b.header_end < length x = z.0.inside in
        let d : suc b.header_end - 1 ≡ b.header_end = omega arith in
        rw z.1
        (lines_say x b.header_end (length x - suc b.header_end) (suc b.header_end) false 0 (omega arith)
        (record {
          behind = omega arith;
          line = rw d z.0.byte;
          counted = rw (letters_none x b.header_end (suc b.header_end) (omega arith));
          clean = λ k l r w. omega (arith, row_in_lines w);
        }))
