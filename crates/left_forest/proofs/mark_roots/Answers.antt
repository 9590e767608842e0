-- `left_forest::mark_roots` meets its contract: each turn marks one start of a factor and follows its link.
-- Assumes nothing.
use native.Mathlib.Omega.{arith}
use borrow.Author.Rules.{rules}
use Rattle.left_forest.proofs.Rooting.{rooting_step, marking_end}
use Rattle.left_forest.proofs.mark_roots.Goals as goal

pub loop-t-preserved : goal.loop-t-preserved
loop-t-preserved c = search (rules, rooting_step)

pub returns : goal.returns
returns c = record {
  starts = marking_end _ _ _ _ _ c.loop-t.invariant.in_first c.loop-t-test.false (omega arith);
  ends = marking_end _ _ _ _ _ c.loop-t.invariant.in_past c.loop-t-test.false (omega arith);
}
