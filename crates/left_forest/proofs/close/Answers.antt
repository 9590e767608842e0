-- `left_forest::close` meets its contract: each turn closes one position and follows its link.
-- Assumes nothing.
use borrow.Author.Rules.{rules}
use Rattle.left_forest.proofs.Linking.{closing_step, closing_end}
use Rattle.left_forest.proofs.close.Goals as goal

pub loop-t-preserved : goal.loop-t-preserved
loop-t-preserved c = search (rules, closing_step)

pub returns : goal.returns
returns c = search (rules, closing_end)
