-- The answer that document 01's table ("Where each check stands") gives for an input of the reader.
-- Assumes nothing.
use Rattle.std.specs.Prelude.{◌≡◌, List, ℕ, ◌<◌, length, Result, Ok, Err}
use Rattle.answer.specs.declared.Accepted.{Accepted}
use Rattle.answer.specs.declared.Answer.{Answer}
use Rattle.answer.specs.declared.Refused.{Refused}
use Rattle.answer.specs.declared.Reason.{Reason}
use Rattle.answer.specs.declared.Reason.TheVariants.{EmptyText, TextTooLong, UnknownOrder, WrongTable, ShortOutput, ShortWork, ZeroEntry, LongEntry, CrossingSpans}
use Rattle.answer.specs.declared.Reason.TheVariants.{NoHeader, BadName, UnfitByte, SecondRecord, NoLetters, TooManyLetters, FileTooLong}
use Rattle.answer.specs.declared.Reason.TheVariants.{NotLyndon, UnknownTable, UnwrittenTable}
use Rattle.fasta.specs.Rows.{HeaderEnds, sequence_letters, Row}

-- "Checks run from the top row down; 6 and 7 share one pass, as do 11, 12 and 14": the passes in their order, which are
-- not the numbers of the refusals. 16 stands "directly after 3" (document 02, E1), 17 is "tested after refusal 4" (E5),
-- 21 is "tested first", 22 "next" (E9).
abbrev pub pass_of : Reason → ℕ
pass_of UnknownTable = 1
pass_of UnwrittenTable = 2
pass_of EmptyText = 3
pass_of TextTooLong = 4
pass_of UnknownOrder = 5
pass_of WrongTable = 6
pass_of ShortOutput = 7
pass_of NotLyndon = 8
pass_of ShortWork = 9
pass_of ZeroEntry = 10
pass_of LongEntry = 10
pass_of CrossingSpans = 11
pass_of FileTooLong = 12
pass_of NoHeader = 13
pass_of BadName = 14
pass_of UnfitByte = 15
pass_of SecondRecord = 15
pass_of TooManyLetters = 15
pass_of NoLetters = 16

-- The check for r at p comes before the check for r' at p': in an earlier pass, or in the same pass at a lesser position.
pub data EarlierCheck (r : Reason) (p : ℕ) (r' : Reason) (p' : ℕ) : Type 0 where
  by_pass : pass_of r < pass_of r' → EarlierCheck r p r' p'
  by_position : pass_of r ≡ pass_of r' → p < p' → EarlierCheck r p r' p'

-- "given whenever its condition holds and no earlier check has refused": the reason r, of these conditions, with the position p.
pub record FirstOf (Condition : Reason → ℕ → Type 0) (r : Reason) (p : ℕ) : Type 0 where
  pub holds : Condition r p
  pub no_earlier : (r' : Reason) (p' : ℕ) → EarlierCheck r' p' r p → ¬ Condition r' p'

-- The reader refuses x for the reason r with the position p.
abbrev pub Refuses : List ℕ → ℕ → Reason → ℕ → Type 0
Refuses x places r p = FirstOf (Row x places) r p

-- The reader accepts x with c letters: no row's condition holds, and the sequence lines have c letters.
pub record Accepts (x : List ℕ) (places c : ℕ) : Type 0 where
  pub no_row : (r : Reason) (p : ℕ) → ¬ Row x places r p
  pub header_end : ℕ
  pub ends : HeaderEnds x 0 header_end
  pub counted : c ≡ length (sequence_letters x header_end)

-- The outcome that document 01's table gives for x; the reader counts no comparisons (document 02, E7).
abbrev pub HasOutcome : List ℕ → ℕ → Result Accepted Refused → Type 0
HasOutcome x places (Ok accepted) = Accepts x places accepted.count × (accepted.comparisons ≡ 0)
HasOutcome x places (Err refusal) = Refuses x places refusal.reason refusal.position

-- The answer that document 01's table gives for x.
abbrev pub HasAnswer : List ℕ → ℕ → Answer → Type 0
HasAnswer x places a = HasOutcome x places a.outcome
