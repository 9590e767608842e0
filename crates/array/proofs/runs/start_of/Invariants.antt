-- `array::runs::start_of` meets its contract: the letters from s up to i continue the period.
-- Assumes nothing.
use Rattle.letters.specs.Keyed.{row}
use Rattle.array.proofs.LeftExtension.{LeftSoFar}
use Rattle.array.proofs.runs.start_of.Given as goal

abbrev pub invariant-loop-s : goal.invariant-loop-s
invariant-loop-s l = LeftSoFar (row l.text) l.i l.p l.s
