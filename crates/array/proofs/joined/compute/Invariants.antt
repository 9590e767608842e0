-- `array::joined::compute` meets its contract: the positions from i on have been joined, and in the end every last place has its entry back.
-- Assumes nothing.
use Rattle.array.proofs.Filling.{Filled}
use Rattle.array.proofs.joined.compute.Given as goal

abbrev pub invariant-loop-i : goal.invariant-loop-i
invariant-loop-i g l = Filled (g.T.Text.order l.text) (g.T.Text.values l.text) l.buf l.i
