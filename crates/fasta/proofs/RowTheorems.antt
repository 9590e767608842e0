-- The reader answers as document 01's table says: each row is given whenever its condition holds and no earlier check has refused,
-- and never otherwise.
-- Assumes nothing.
use Rattle.std.specs.Prelude.{◌≡◌, refl, Bool, true, false, ◌↔◌, List, map, ℕ, ◌≤◌, length, take, drop, IsOkAnd}
use Rattle.std.proofs.Common.{subst, arith}
use Rattle.words.specs.ExactlyOne.{ExactlyOne}
use Rattle.answer.specs.declared.Reason.{Reason}
use Rattle.answer.specs.declared.Reason.TheVariants.{NoHeader}
use Rattle.answer.specs.Answers.{accepted_with, accepted_after, refused_for}
use Rattle.answer.specs.AfterLaws.{written_first, written_rest}
use Rattle.fasta_record.specs.Bytes.{letter_of, header_mark, starts_with}
use Rattle.fasta_record.specs.Record.{lines_start, name_end}
use Rattle.fasta.specs.Reader.{reader_answer, letters_of, letters_after}
use Rattle.fasta.specs.Rows.{Stands, NameEnds, HeaderEnds, sequence_letters, no_header, in_record}
use Rattle.fasta.specs.CheckOrder.{Refuses, Accepts, HasAnswer}
use Rattle.fasta.specs.Accepted.{AcceptedInput}
use Rattle.fasta.proofs.Laws.Accepted.{reader_accepted}
use Rattle.fasta.specs.Laws.Stands.{StartSays, start_says}
use Rattle.fasta.specs.Laws.HeaderLine.{header_unique, LinesBegin, lines_begin, record_letters_lem}
use Rattle.fasta.proofs.Laws.CheckOrder.{reader_says}
use Rattle.fasta.specs.Laws.OneAnswer.{answer_unique}

module _ (x : List ℕ) (places : ℕ) where
  -- A row is given exactly when its condition holds and no earlier one's does.
  pub refused_exactly : (r : Reason) (p : ℕ) → reader_answer x places ≡ refused_for r p ↔ Refuses x places r p
  refused_exactly r p =
      (λ e. subst (HasAnswer x places) e (reader_says x places), λ h. answer_unique x places (reader_says x places) h)

  -- The input is accepted exactly when no row's condition holds; the count is that of the letters of the sequence lines.
  pub accepted_exactly : (c : ℕ) → reader_answer x places ≡ accepted_with c ↔ Accepts x places c
  accepted_exactly c =
      (λ e. (subst (HasAnswer x places) e (reader_says x places)).0, λ h. answer_unique x places (reader_says x places) (h, refl))

  -- It then counts no comparisons.
  pub accepted_uncompared : {c q : ℕ} → reader_answer x places ≡ accepted_after c q → q ≡ 0
  accepted_uncompared e = (subst (HasAnswer x places) e (reader_says x places)).1

  -- The table gives exactly one answer, the reader's.
  pub one_answer : ExactlyOne (HasAnswer x places) (reader_answer x places)
  one_answer =
      record { holds = reader_says x places; only = λ a h. answer_unique x places h (reader_says x places) }

-- The header line of a record ends at exactly one position.
pub one_header_end : (x : List ℕ) (s : ℕ) → s ≤ length x → (e : ℕ) × ExactlyOne (HeaderEnds x s) e
one_header_end x s h =
    let b : LinesBegin x s (lines_start x s) = lines_begin x s h in
    (b.header_end, record { holds = b.ends; only = λ e k. header_unique k b.ends })

-- The letters that the reader writes are what is handed on for the letters of the sequence lines, in their order.
pub letters_are : (x : List ℕ) (e : ℕ) → HeaderEnds x 0 e → letters_of x ≡ map letter_of (sequence_letters x e)
letters_are x e h = record_letters_lem x 0 e (omega arith) h

-- With a buffer that the reader accepts, the first places hold them, and the others what they held before.
pub letters_written :
    (x letters : List ℕ) (c : ℕ) → reader_answer x (length letters) ≡ accepted_with c
    → (take c (letters_after x letters) ≡ letters_of x) × (drop c (letters_after x letters) ≡ drop c letters)
letters_written x letters c e =
    let a : (end : ℕ) × AcceptedInput x c end = reader_accepted x (length letters) c e in
    (written_first _ c c (letters_of x) letters e a.1.letters, written_rest _ c c (letters_of x) letters e a.1.letters)

-- The name of an accepted input ends where document 01 says; `record_name` is what stands between the '>' and that position.
pub accepted_name : (x : List ℕ) (places c : ℕ) → reader_answer x places ≡ accepted_with c → IsOkAnd (name_end x 0) (NameEnds x 0)
accepted_name x places c e =
    let a : (end : ℕ) × AcceptedInput x c end = reader_accepted x places c e in
    rw a.1.found a.1.name

-- An accepted input begins with '>'.
pub accepted_mark : (x : List ℕ) (places c : ℕ) → reader_answer x places ≡ accepted_with c → Stands x 0 header_mark
accepted_mark x places c e = go (starts_with header_mark x) (start_says x 0 header_mark)
  where
    go : (t : Bool) → StartSays x 0 header_mark t → Stands x 0 header_mark
    go true h = h
    go false h = absurd (((accepted_exactly x places c).0 e).no_row NoHeader 0 (in_record (no_header h)))
