-- `left_forest::close` meets its contract: each turn closes one position and follows its link.
-- Assumes nothing.
use Rattle.left_forest.proofs.Linking.{Closing}
use Rattle.left_forest.proofs.close.Given as goal

abbrev pub invariant-loop-t : goal.invariant-loop-t
invariant-loop-t l = Closing l.first l.initial.past l.past l.e l.last l.t

abbrev pub decreases-loop-t : goal.decreases-loop-t
decreases-loop-t l = l.t
