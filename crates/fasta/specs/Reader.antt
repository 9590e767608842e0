-- What the FASTA reader answers, which letters it writes and where the name ends (document 01, "The FASTA reader and the repeat lister"; rows 4
-- and 9 to 15 of its table; document 02, E2 and E4). Computed; the rows as conditions on the input stand in Rows, that the two agree in proofs/RowTheorems.
-- Assumes nothing.
use Rattle.std.specs.Prelude.{cond, List, ℕ, eqb, length, drop, Result, Ok, Err}
use Rattle.answer.specs.declared.Refused.{Refused}
use Rattle.answer.specs.declared.Reason.TheVariants.{SecondRecord, NoLetters}
use Rattle.answer.specs.declared.Answer.{Answer}
use Rattle.answer.specs.Answers.{accepted_with, refused_by, refused_for}
use Rattle.checks.specs.Checks.{reader_checked}
use Rattle.answer.specs.AfterCall.{content_after}
use Rattle.fasta_record.specs.declared.Fault.{Fault}
use Rattle.fasta_record.specs.declared.Record.{Record}
use Rattle.fasta_record.specs.declared.lines.Stop.{Stop}
use Rattle.fasta_record.specs.declared.lines.Stop.TheVariants.{NextRecord, InputEnd}
use Rattle.fasta_record.specs.Fault.{refused_at}
use Rattle.fasta_record.specs.Record.{lines_start, record_at}
use Rattle.fasta.specs.declared.Named.{Named}
use Rattle.fasta.specs.Letters.{letters_in}

-- The letters of the record of x that starts at p and is its last.
abbrev pub record_letters : List ℕ → ℕ → List ℕ
record_letters x p = letters_in (drop (lines_start x p) x)

-- A record whose lines stop so, of an input that has no other: another one is refusal 12, and no letter 13.
abbrev pub only_stopped : Stop → Record → Result Record Fault
only_stopped NextRecord found = refused_at SecondRecord found.lines.position
only_stopped InputEnd found = cond (eqb found.lines.count 0) (refused_at NoLetters found.lines.position) (Ok found)

-- What is found of such a record, by what is found of it by itself.
abbrev pub only_found : Result Record Fault → Result Record Fault
only_found (Ok found) = only_stopped found.lines.stop found
only_found (Err fault) = Err fault

-- The record of an input x that has no other.
abbrev pub only_record : List ℕ → Result Record Fault
only_record x = only_found (record_at x 0)

-- The answer for it.
abbrev pub answer_for : Result Record Fault → Answer
answer_for (Ok found) = accepted_with found.lines.count
answer_for (Err fault) = refused_for fault.reason fault.position

-- What the reader answers to the input x with a letters buffer of so many places.
abbrev pub reader_answer : List ℕ → ℕ → Answer
reader_answer x places = reader_checked (length x) places (answer_for (only_record x))

-- The answer in what `read_named` tells.
abbrev pub answer_of : Result Named Refused → Answer
answer_of (Ok named) = record { outcome = Ok named.accepted }
answer_of (Err refusal) = refused_by refusal

-- The letters that the reader writes for an accepted input x.
abbrev pub letters_of : List ℕ → List ℕ
letters_of x = record_letters x 0

-- What `read` and `read_named` leave in the buffer `letters`.
abbrev pub letters_after : List ℕ → List ℕ → List ℕ
letters_after x letters = content_after (reader_answer x (length letters)) (letters_of x) letters
