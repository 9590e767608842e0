-- What the repeat lister prints (document 01, "The FASTA reader and the repeat lister").
-- Assumes nothing.
use Rattle.std.specs.Prelude.{List, ℕ, Result, Ok, Err}
use Rattle.answer.specs.declared.Accepted.{Accepted}
use Rattle.answer.specs.declared.Refused.{Refused}
use Rattle.answer.specs.Reasons.{number_of}
use Rattle.answer.specs.Limits.{max_letters}
use Rattle.array.specs.Calls.{run_list}
use Rattle.fasta_record.specs.Record.{record_name}
use Rattle.fasta.specs.Reader.{reader_answer, record_letters}
use Rattle.bed.specs.Bed.{bed_lines}
use Rattle.bed.specs.Refusal.{refusal_line}

-- The lines of the record of x that starts at p: one for each run of its letters.
abbrev pub record_listing : List ℕ → ℕ → List ℕ
record_listing x p = bed_lines (record_name x p) (run_list (record_letters x p))

-- What is printed for the input x by the reader's outcome.
abbrev pub listing_for : Result Accepted Refused → List ℕ → List ℕ
listing_for (Ok accepted) x = record_listing x 0
listing_for (Err refusal) x = refusal_line (number_of refusal.reason) refusal.position

-- What is printed for the input x.
abbrev pub listing_of : List ℕ → List ℕ
listing_of x = listing_for (reader_answer x max_letters).outcome x
