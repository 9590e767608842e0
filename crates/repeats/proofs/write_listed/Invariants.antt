-- `repeats::write_listed` meets its contract. The loop's invariant: once the rest is written, all is.
-- Assumes nothing.
use Rattle.std.proofs.Common.{ℕ, List, length, Option}
use Rattle.std.specs.Io.KnownBytes.{Appends}
use Rattle.repeats.proofs.write_listed.Given as goal

abbrev pub invariant-loop-rest : goal.invariant-loop-rest
invariant-loop-rest g l = (q : Option (List ℕ)) → Appends (g.W.Write.contents l.to) q l.rest → Appends (g.W.Write.contents l.initial.to) q l.listed

abbrev pub decreases-loop-rest : goal.decreases-loop-rest
decreases-loop-rest g l = length l.rest
