-- `infinite_order::compare::compare_copies` meets its contract: each turn of the loop is one step of the definition.
-- Assumes nothing.
use borrow.Author.Rules.{rules}
use Rattle.infinite_order.proofs.Comparing.{comparing_start, comparing_differs, comparing_next}
use Rattle.infinite_order.proofs.compare.compare_copies.Goals as goal

-- The lengths are added.
pub loop-init : goal.loop-init
loop-init c = search (rules, comparing_start)

pub returns-then-a-b : goal.returns-then-a-b
returns-then-a-b c = search (rules, comparing_differs)

pub loop-preserved : goal.loop-preserved
loop-preserved c = search (rules, comparing_next)
