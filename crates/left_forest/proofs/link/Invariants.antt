-- `left_forest::link` meets its contract: each turn reads one word of the table.
-- Assumes nothing.
use Rattle.left_forest.specs.Links.{Crossed}
use Rattle.left_forest.proofs.link.Given as goal

abbrev pub invariant-loop-e : goal.invariant-loop-e
invariant-loop-e l = Crossed l.initial.first l.initial.past l.first l.past l.e l.last
