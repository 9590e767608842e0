-- The numbers of the reasons to refuse an input.
-- Assumes nothing.
use Rattle.std.specs.Prelude.{ℕ}
use Rattle.answer.specs.declared.Reason.{Reason}
use Rattle.answer.specs.declared.Reason.TheVariants.{EmptyText, TextTooLong, UnknownOrder, ShortOutput, ShortWork, ZeroEntry, LongEntry, CrossingSpans}
use Rattle.answer.specs.declared.Reason.TheVariants.{NoHeader, BadName, UnfitByte, SecondRecord, NoLetters, TooManyLetters, FileTooLong}
use Rattle.answer.specs.declared.Reason.TheVariants.{WrongTable, NotLyndon, UnknownTable, UnwrittenTable}

-- The number of each reason: document 01, "Where each check stands", column "No."; those from 16 on are document 02's, 16 of E1, 17 of E5, 21 and 22 of E9.
abbrev pub number_of : Reason → ℕ
number_of EmptyText = 1
number_of TextTooLong = 2
number_of UnknownOrder = 3
number_of ShortOutput = 4
number_of ShortWork = 5
number_of ZeroEntry = 6
number_of LongEntry = 7
number_of CrossingSpans = 8
number_of NoHeader = 9
number_of BadName = 10
number_of UnfitByte = 11
number_of SecondRecord = 12
number_of NoLetters = 13
number_of TooManyLetters = 14
number_of FileTooLong = 15
number_of WrongTable = 16
number_of NotLyndon = 17
number_of UnknownTable = 21
number_of UnwrittenTable = 22
