-- `factors::suffix_table::fill` meets its contract: each turn writes the entry of the letter that it reads.
-- Assumes nothing.
use native.Mathlib.Omega.{arith}
use Rattle.words.specs.Decided.{decided_order}
use Rattle.letters.specs.Compared.{order_number}
use Rattle.factors.proofs.Tabling.{filling_start, filling_same, filling_above}
use Rattle.factors.proofs.suffix_table.fill.Goals as goal
use Rattle.factors.proofs.suffix_table.fill.Goals.{in-Equal, in-Greater}

pub loop-end-init : goal.loop-end-init
loop-end-init c = filling_start _ _ _ _ c.requires.text_room c.requires.start_in_bounds c.requires.startable

pub loop-end-preserved : goal.loop-end-preserved
loop-end-preserved c =
    let D = decided_order (order_number c.args.text.order) in
    let w = c.loop-end.invariant in
    let lowest = c.requires.startable.lowest in
    elim c.match-compare.branch [
      | in-Equal b ↦ rw (b.out-is, b.period-is) (filling_same _ _ _ _ _ _ w D (omega arith) c.compare.ensures.answer lowest b.in-Equal.is)
      | in-Greater b ↦ rw (b.out-is, b.period-is) (filling_above _ _ _ _ _ _ w D (omega arith) c.compare.ensures.answer lowest b.in-Greater.is)
    ]
