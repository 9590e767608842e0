-- `array::factor::restore_all` meets its contract: the last places below j have their entries back.
-- Assumes nothing.
use Prim.Native.Nat.{◌-◌}
use lib.ListN.{length}
use Rattle.array.proofs.Restoring.{RestoredBelow}
use Rattle.array.proofs.factor.restore_all.Given as goal

abbrev pub invariant-loop-j : goal.invariant-loop-j
invariant-loop-j l = RestoredBelow l.initial.buf l.buf l.j

abbrev pub decreases-loop-j : goal.decreases-loop-j
decreases-loop-j l = length l.buf - l.j
