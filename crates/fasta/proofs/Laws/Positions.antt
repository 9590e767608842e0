-- What is refused of an input is refused at a position of it, or at its end.
-- Assumes nothing.
use Rattle.std.specs.Prelude.{◌≡◌, Bool, true, false, cond, List, ℕ, ◌≤◌, eqb, length, Result, Ok, Err}
use Rattle.std.proofs.Common.{arith}
use Rattle.std.specs.Prelude.{IfErr}
use Rattle.std.proofs.lemmas.Result.{IfErr-at_err}
use Rattle.answer.specs.declared.Reason.{Reason}
use Rattle.answer.specs.declared.Reason.TheVariants.{NoLetters}
use Rattle.fasta_record.specs.declared.Fault.{Fault}
use Rattle.fasta_record.specs.declared.Record.{Record}
use Rattle.fasta_record.specs.declared.lines.Stop.{Stop}
use Rattle.fasta_record.specs.declared.lines.Stop.TheVariants.{NextRecord, InputEnd}
use Rattle.fasta_record.specs.Fault.{refused_at}
use Rattle.fasta_record.specs.Record.{record_at}
use Rattle.fasta.specs.Reader.{only_stopped, only_found, only_record}
use Rattle.fasta.specs.Rows.{RecordRow, no_header, bad_name, in_lines, no_letters}
use Rattle.fasta.specs.Laws.HeaderLine.{row_in_lines}
use Rattle.fasta.specs.Laws.RecordRows.{LastSays, RecordSays}
use Rattle.fasta.proofs.Laws.RecordRows.{record_says}

-- The position of a row is within the input.
row_within : {x : List ℕ} {s p : ℕ} {r : Reason} → s ≤ length x → RecordRow x s r p → p ≤ length x
row_within h (no_header n) = h
row_within h (bad_name u b) = u.within
row_within h (in_lines i l) = omega (arith, row_in_lines l)
row_within h (no_letters i n) = omega arith

-- A fault is within n places.
abbrev Within : ℕ → Result Record Fault → Type 0
Within n found = IfErr found (λ fault. fault.position ≤ n)

found_within : (x : List ℕ) (found : Result Record Fault) → RecordSays x 0 found → Within (length x) (only_found found)
found_within x (Err fault) h = row_within (omega arith) h.holds
found_within x (Ok found) h = go found.lines.stop h
  where
    none : found.lines.position ≡ length x → (t : Bool) → Within (length x) (cond t (refused_at NoLetters found.lines.position) (Ok found))
    none e true = omega arith
    none e false = tt

    go : (t : Stop) → LastSays x 0 found t → Within (length x) (only_stopped t found)
    go NextRecord h = row_within (omega arith) h.holds
    go InputEnd h = none h.place (eqb found.lines.count 0)

-- Where an input is refused for a fault in its record.
pub fault_within : (x : List ℕ) {fault : Fault} → only_record x ≡ Err fault → fault.position ≤ length x
fault_within x e =
    IfErr-at_err (λ (fault : Fault). fault.position ≤ length x) e (found_within x (record_at x 0) (record_says x 0 (omega arith)))
