-- `left_forest::link` meets its contract: each turn reads one word of the table.
-- Assumes nothing.
use borrow.Author.Rules.{rules}
use Rattle.left_forest.proofs.Linking.{crossed_step}
use Rattle.left_forest.proofs.link.Goals as goal

pub loop-e-preserved : goal.loop-e-preserved
loop-e-preserved c = search (rules, crossed_step)
