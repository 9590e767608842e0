-- `factors::suffix_table::fill_table` meets its contract: each turn does one factor.
-- Assumes nothing.
use Rattle.factors.proofs.Tabling.{covering_step, covered_filled}
use Rattle.factors.proofs.suffix_table.fill_table.Goals as goal
use Rattle.factors.proofs.suffix_table.fill_table.Goals.{then-s-start, else-s-start}

pub loop-start-preserved : goal.loop-start-preserved
loop-start-preserved c =
    let w = c.loop-start.invariant in
    elim c.if-s-start.branch [
      | then-s-start b ↦ rw (b.out-is, b.s-is) (covering_step _ _ _ _ _ _ _ _ w b.fill-s.ensures.content)
      | else-s-start b ↦ rw (b.out-is, b.s-is) (covering_step _ _ _ _ _ _ _ _ w (covered_filled _ _ _ _ _ w.covered b.if-s-start.false))
    ]
