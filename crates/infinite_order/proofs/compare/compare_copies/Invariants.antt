-- `infinite_order::compare::compare_copies` meets its contract: each turn of the loop is one step of the definition.
-- Assumes nothing.
use Rattle.infinite_order.proofs.Comparing.{Comparing}
use Rattle.infinite_order.proofs.compare.compare_copies.Given as goal

abbrev pub invariant-loop : goal.invariant-loop
invariant-loop l = Comparing l.u l.v l.most l.counter l.i l.j
