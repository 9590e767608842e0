-- `valid_array::spans::least_crossing` meets its contract. The loop's invariant: walks were made from all earlier positions, and `least` is
-- the least crossing that they found.
-- Assumes nothing.
use Rattle.valid_array.proofs.Crossings.{Walked}
use Rattle.valid_array.proofs.spans.least_crossing.Given as goal

abbrev pub invariant-loop-i : goal.invariant-loop-i
invariant-loop-i l = Walked l.array l.i l.least
