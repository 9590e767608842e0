-- The reason to refuse an array for each fault of it.
-- Assumes nothing.
use Rattle.words.specs.ValidArray.{Fault, zero_entry, long_entry, crossing}
use Rattle.answer.specs.declared.Reason.{Reason}
use Rattle.answer.specs.declared.Reason.TheVariants.{ZeroEntry, LongEntry, CrossingSpans}

-- Refusals 6, 7 and 8.
abbrev pub reason_for : Fault → Reason
reason_for zero_entry = ZeroEntry
reason_for long_entry = LongEntry
reason_for crossing = CrossingSpans
