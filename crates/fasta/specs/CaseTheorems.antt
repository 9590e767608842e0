-- The case of a sequence letter changes nothing (document 02, E2). That the reader hands on capitals only, and one name, stands in
-- `proofs/CaseTheorems`.
-- Assumes nothing.
use Rattle.std.specs.Prelude.{◌≡◌, List, ℕ, length, Result}
use Rattle.std.proofs.Common.{ap₂}
use Rattle.answer.specs.declared.Answer.{Answer}
use Rattle.answer.specs.AfterCall.{content_after}
use Rattle.checks.specs.Checks.{reader_checked}
use Rattle.fasta_record.specs.declared.Fault.{Fault}
use Rattle.fasta_record.specs.declared.Record.{Record}
use Rattle.fasta_record.specs.Record.{name_end}
use Rattle.fasta.specs.Case.{CaseChanged}
use Rattle.fasta.specs.Reader.{only_found, answer_for, reader_answer, letters_of, letters_after}
use Rattle.fasta.specs.Laws.Case.{PartsUpToCase, case_parts, record_same, letters_of_same, name_end_same}

-- An input x, and x with any of its sequence letters in the other case,
module _ {x y : List ℕ} (c : CaseChanged x y) where
  parts : PartsUpToCase x y
  parts = case_parts c

  -- have one answer,
  pub case_answer : (places : ℕ) → reader_answer x places ≡ reader_answer y places
  case_answer places =
      ap₂ (λ (n : ℕ) (r : Result Record Fault). reader_checked n places (answer_for (only_found r))) c.size (record_same parts 0)

  -- one list of letters,
  pub case_letters : letters_of x ≡ letters_of y
  case_letters = letters_of_same parts 0

  -- one content of the buffer,
  pub case_content : (letters : List ℕ) → letters_after x letters ≡ letters_after y letters
  case_content letters =
      ap₂ (λ (a : Answer) (l : List ℕ). content_after a l letters) (case_answer (length letters)) case_letters

  -- and one end of the name, or one refusal of it. Accepted, they have one name: `case_name` of `proofs/CaseTheorems`.
  pub case_name_end : name_end x 0 ≡ name_end y 0
  case_name_end = name_end_same parts 0
