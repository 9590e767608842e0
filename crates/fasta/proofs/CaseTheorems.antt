-- The reader hands on capitals only, and the case of a sequence letter changes no name (document 02, E2).
-- Assumes nothing.
use Rattle.std.specs.Prelude.{◌≡◌, List, ℕ, ◌+◌, ◌-◌, ◌≤◌, ◌<◌, length, get_or, drop}
use Rattle.std.proofs.Common.{sym, ◌∙◌, arith, length-drop, get_or-drop}
use Rattle.words.specs.Laws.Word.{take_alike}
use Rattle.answer.specs.Answers.{accepted_with}
use Rattle.answer.specs.ContentLaws.{written_value}
use Rattle.fasta_record.specs.Record.{lines_start, record_name}
use Rattle.fasta.specs.Classes.{IsCapital}
use Rattle.fasta.specs.Case.{CaseChanged}
use Rattle.fasta.specs.Reader.{reader_answer, letters_of, letters_after}
use Rattle.fasta.proofs.RowTheorems.{accepted_mark}
use Rattle.fasta.specs.Laws.NameBytes.{name_in_header}
use Rattle.fasta.specs.Accepted.{AcceptedInput}
use Rattle.fasta.specs.Laws.Accepted.{record_name_is}
use Rattle.fasta.proofs.Laws.Accepted.{reader_accepted}
use Rattle.fasta.specs.Laws.Case.{letters_capitals, case_parts, name_end_same}

-- "The reader hands on capitals only": in the buffer of an accepted input, each of the places written holds one.
pub capitals_written :
    (x letters : List ℕ) (c : ℕ) → reader_answer x (length letters) ≡ accepted_with c
    → (k : ℕ) → k < c → IsCapital (get_or (letters_after x letters) k 0)
capitals_written x letters c e k h =
    let a : (end : ℕ) × AcceptedInput x c end = reader_accepted x (length letters) c e in
    let l : k < length (letters_of x) = omega (arith, a.1.letters) in
    rw e (rw (written_value (letters_of x) letters k l) (letters_capitals (drop (lines_start x 0) x) k l))

-- An input x, and x with any of its sequence letters in the other case,
module _ {x y : List ℕ} (c : CaseChanged x y) where
  -- have, accepted, one name.
  pub case_name : (places n : ℕ) → reader_answer x places ≡ accepted_with n → record_name x 0 ≡ record_name y 0
  case_name places n e =
      let accepted : (end : ℕ) × AcceptedInput x n end = reader_accepted x places n e in
      let a = accepted.1 in
      let within : accepted.0 ≤ c.header_end = name_in_header (accepted_mark x places n e) a.name c.ends in
      record_name_is x a.found ∙
      (take_alike 0 (drop 1 x) (drop 1 y) (accepted.0 - 1) (omega (arith, length-drop 1 x, a.name.up_to.within))
      (omega (arith, length-drop 1 y, c.size, a.name.up_to.within))
      (λ k l. get_or-drop 1 x k 0 ∙ c.header (1 + k) (omega arith) ∙ sym (get_or-drop 1 y k 0))) ∙
      sym (record_name_is y (sym (name_end_same (case_parts c) 0) ∙ a.found))
