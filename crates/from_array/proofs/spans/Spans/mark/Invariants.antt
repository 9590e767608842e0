-- `from_array::spans::Spans::mark` meets its contract. The loop's invariant is that of marking; the measure is what is left of the span.
-- Assumes nothing.
use Prim.Native.Nat.{◌-◌}
use Rattle.from_array.proofs.Marking.{Marking}
use Rattle.from_array.proofs.spans.Spans.mark.Given as goal

abbrev pub invariant-loop-k : goal.invariant-loop-k
invariant-loop-k l = Marking l.self.array.now l.i l.value l.k l.initial.out l.out

abbrev pub decreases-loop-k : goal.decreases-loop-k
decreases-loop-k l = l.end - l.k
