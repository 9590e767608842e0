-- `factors::scan::Ordered::scan` meets its contract: each turn of the loop is one step of the definition.
-- Assumes nothing.
use native.Mathlib.Omega.{arith}
use Rattle.factors.proofs.Scanning.{scanning_start, scanning_below, scanning_same, scanning_above, scanning_end}
use Rattle.factors.proofs.scan.Ordered.scan.Goals as goal
use Rattle.factors.proofs.scan.Ordered.scan.Goals.{in-Equal, in-Greater}

pub loop-end-init : goal.loop-end-init
loop-end-init c = search scanning_start

pub returns-in-Less-clause-stretch : goal.returns-in-Less-clause-stretch
returns-in-Less-clause-stretch c = scanning_below _ _ _ _ c.loop-end.invariant (omega arith) c.compare.ensures.answer c.in-Less.is

pub loop-end-preserved : goal.loop-end-preserved
loop-end-preserved c =
    elim c.match-compare.branch [
      | in-Equal b ↦ rw b.period-is (scanning_same _ _ _ _ c.loop-end.invariant (omega arith) c.compare.ensures.answer b.in-Equal.is)
      | in-Greater b ↦ rw b.period-is (scanning_above _ _ _ _ c.loop-end.invariant (omega arith) c.compare.ensures.answer b.in-Greater.is)
    ]

pub returns-clause-stretch : goal.returns-clause-stretch
returns-clause-stretch c = scanning_end _ _ _ _ c.loop-end.invariant c.len.ensures (omega arith)
