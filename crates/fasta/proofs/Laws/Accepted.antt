-- What holds of an input that the reader accepts.
-- Assumes nothing.
use Rattle.std.specs.Prelude.{◌≡◌, Bool, true, false, List, ℕ, ◌≤◌, ltb, length, take, drop, ◌-◌, Ok}
use Rattle.std.proofs.Common.{sym, ap, subst, ◌∙◌, arith}
use Rattle.std.proofs.lemmas.List.{length-map, take_rest}
use Rattle.answer.specs.declared.Reason.TheVariants.{ShortOutput, FileTooLong}
use Rattle.answer.specs.Answers.{accepted_after, accepted_apart, refused_if}
use Rattle.answer.specs.Limits.{max_letters, max_input}
use Rattle.fasta_record.specs.declared.Record.{Record}
use Rattle.fasta_record.specs.Bytes.{letter_of}
use Rattle.fasta_record.specs.Lines.{lines_from}
use Rattle.fasta_record.specs.Record.{lines_start, record_at, name_end}
use Rattle.fasta.specs.Letters.{letters_in}
use Rattle.fasta.specs.Reader.{only_record, answer_for, reader_answer}
use Rattle.fasta.specs.Rows.{sequence_letters}
use Rattle.fasta.specs.Laws.HeaderLine.{record_letters_lem}
use Rattle.fasta.specs.Laws.RecordRows.{ReadToEnd, LastSays, RecordSays}
use Rattle.fasta.proofs.Laws.RecordRows.{record_says}
use Rattle.fasta.specs.Accepted.{AcceptedInput}
use Rattle.fasta.specs.Laws.Accepted.{ReadAlone, read_alone, name_read, count_read, whole_most}

-- What is known of an input whose record is taken.
module _ (x : List ℕ) (read : Record) (h : only_record x ≡ Ok read) where
  alone : ReadAlone (record_at x 0) read
  alone = read_alone (record_at x 0) read h

  whole : ReadToEnd x 0 read.name_end read.lines.count read.lines.position
  whole = subst (LastSays x 0 read) alone.last (subst (RecordSays x 0) alone.alone (record_says x 0 (omega arith)))

  pub record_input : AcceptedInput x read.lines.count read.name_end
  record_input =
      record {
        letters =
            ap length (record_letters_lem x 0 whole.header_end (omega arith) whole.ends)
            ∙ length-map (sequence_letters x whole.header_end) letter_of
            ∙ sym whole.counted;
        some = alone.some;
        most = whole_most whole;
        found = name_read (name_end x 0) (lines_from (lines_start x 0) false 0 (drop (lines_start x 0) x)) read alone.alone;
        name = whole.name;
      }

-- What is known of an input that the reader accepts.
pub reader_accepted : (x : List ℕ) (places count : ℕ) {comparisons : ℕ} → reader_answer x places ≡ accepted_after count comparisons →
    (end : ℕ) × AcceptedInput x count end
reader_accepted x places count {comparisons} h = go (ltb places max_letters) (ltb max_input (length x)) h
  where
    go : (s t : Bool)
        → refused_if s ShortOutput 0 (refused_if t FileTooLong max_input (answer_for (only_record x))) ≡ accepted_after count comparisons
        → (end : ℕ) × AcceptedInput x count end
    go true t e = absurd (accepted_apart (sym e))
    go false true e = absurd (accepted_apart (sym e))
    go false false e =
        let read : (r : Record) × (only_record x ≡ Ok r) × (r.lines.count ≡ count) = count_read (only_record x) count e in
        (read.0.name_end, subst (λ n. AcceptedInput x n read.0.name_end) read.2 (record_input x read.0 read.1))

-- Its letters fit a buffer of the length that the checks ask for.
pub record_room : (x : List ℕ) {read : Record} → only_record x ≡ Ok read → (n start : ℕ) → max_letters ≤ n → start ≡ lines_start x 0 →
    length (letters_in (take (length x - start) (drop start x))) ≤ n
record_room x {read} h n start k e =
    let a : AcceptedInput x read.lines.count read.name_end = record_input x read h in
    rw (take_rest x start, e) (omega (arith, a.letters, a.most))
