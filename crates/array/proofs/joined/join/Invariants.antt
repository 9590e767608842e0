-- `array::joined::join` meets its contract. The outer loop keeps `JoinLoop`; the comparison keeps the letters known to agree.
-- Assumes nothing.
use Prim.Native.Nat.{◌-◌}
use lib.ListN.{length}
use Rattle.array.specs.Core.Join.{Agreeing}
use Rattle.array.proofs.Comparing.{JoinLoop}
use Rattle.array.proofs.joined.join.Given as goal

abbrev pub invariant-loop-agreed : goal.invariant-loop-agreed
invariant-loop-agreed g l = Agreeing (g.T.Text.values l.text) l.i l.factor.start l.agreed

abbrev pub decreases-loop-agreed : goal.decreases-loop-agreed
decreases-loop-agreed g l = l.factor.length - l.agreed

abbrev pub invariant-loop-end : goal.invariant-loop-end
invariant-loop-end g l = JoinLoop (g.T.Text.order l.text) (g.T.Text.values l.text) l.initial.buf l.buf l.i l.end l.agreed l.part

abbrev pub decreases-loop-end : goal.decreases-loop-end
decreases-loop-end g l = length (g.T.Text.values l.text) - l.end
