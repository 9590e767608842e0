-- Refusals of a record.
-- Assumes nothing.
use Rattle.std.specs.Prelude.{ℕ, Result, Err}
use Rattle.answer.specs.declared.Reason.{Reason}
use Rattle.fasta_record.specs.declared.Fault.{Fault}

-- Refused for this reason at position p.
abbrev pub refused_at : {T : Type 0} → Reason → ℕ → Result T Fault
refused_at reason p = Err (record { reason = reason; position = p })
