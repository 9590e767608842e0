-- The records of a FASTA input (document 01, "The FASTA reader and the repeat lister"; rows 9 to 12 and 14 of its table; document 02, E4).
-- Assumes nothing.
use Rattle.std.specs.Prelude.{false, cond, List, [], ℕ, suc, ◌-◌, take, drop, Result, Ok, Err}
use Rattle.answer.specs.declared.Reason.TheVariants.{NoHeader}
use Rattle.fasta_record.specs.declared.Fault.{Fault}
use Rattle.fasta_record.specs.declared.Record.{Record}
use Rattle.fasta_record.specs.declared.lines.Lines.{Lines}
use Rattle.fasta_record.specs.Bytes.{header_mark, starts_with}
use Rattle.fasta_record.specs.Fault.{refused_at}
use Rattle.fasta_record.specs.Name.{name_from}
use Rattle.fasta_record.specs.Lines.{after_line, lines_from}

-- Where the name ends of the record of x that starts at p, past its last byte: refusal 9, of its byte 0, and refusal 10, of the name.
abbrev pub name_end : List ℕ → ℕ → Result ℕ Fault
name_end x p = cond (starts_with header_mark (drop p x)) (name_from (suc p) 0 (drop (suc p) x)) (refused_at NoHeader p)

-- That name: the bytes between the '>' and its end.
abbrev pub record_name : List ℕ → ℕ → List ℕ
record_name x p = elim (name_end x p) [ Ok end ↦ take (end - suc p) (drop (suc p) x) | Err fault ↦ [] ]

-- Where the sequence lines of that record start: past the line of its name.
abbrev pub lines_start : List ℕ → ℕ → ℕ
lines_start x p = after_line p (drop p x)

-- A record with this name and these lines: the first refusal counts.
abbrev pub with_lines : Result ℕ Fault → Result Lines Fault → Result Record Fault
with_lines (Err fault) lines = Err fault
with_lines (Ok end) (Err fault) = Err fault
with_lines (Ok end) (Ok lines) = Ok (record { name_end = end; lines = lines })

-- The record of x that starts at p: refusals 9 and 10, then one pass over its lines.
abbrev pub record_at : List ℕ → ℕ → Result Record Fault
record_at x p = with_lines (name_end x p) (lines_from (lines_start x p) false 0 (drop (lines_start x p) x))
