-- `left_forest::mark_roots` meets its contract: each turn marks one start of a factor and follows its link.
-- Assumes nothing.
use Rattle.left_forest.proofs.Rooting.{Rooting}
use Rattle.left_forest.proofs.mark_roots.Given as goal

abbrev pub invariant-loop-t : goal.invariant-loop-t
invariant-loop-t l = Rooting l.initial.first l.initial.past l.first l.past l.last l.t

abbrev pub decreases-loop-t : goal.decreases-loop-t
decreases-loop-t l = l.t
