-- `valid_array::spans::crossing_from` meets its contract. The loop's invariant is the walk's; the measure is what is left of the span.
-- Assumes nothing.
use Prim.Native.Nat.{◌-◌}
use Rattle.valid_array.proofs.Crossings.{Walk}
use Rattle.valid_array.proofs.spans.crossing_from.Given as goal

abbrev pub invariant-loop-k : goal.invariant-loop-k
invariant-loop-k l = Walk l.array l.i l.k

abbrev pub decreases-loop-k : goal.decreases-loop-k
decreases-loop-k l = l.end - l.k
