-- `factors::suffix_table::fill_table` meets its contract: each turn does one factor.
-- Assumes nothing.
use Prim.Native.Nat.{◌-◌}
use lib.ListN.{length}
use Rattle.words.specs.Letters.{order_of}
use Rattle.letters.specs.Compared.{order_number}
use Rattle.letters.specs.Keyed.{row}
use Rattle.factors.proofs.Tabling.{Covering}
use Rattle.factors.proofs.suffix_table.fill_table.Given as goal

abbrev pub invariant-loop-start : goal.invariant-loop-start
invariant-loop-start l = Covering (order_of (order_number l.text.order)) (row l.text.letters) l.initial.out l.out l.start l.s

abbrev pub decreases-loop-start : goal.decreases-loop-start
decreases-loop-start l = length (row l.text.letters) - l.start
