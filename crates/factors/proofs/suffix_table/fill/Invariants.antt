-- `factors::suffix_table::fill` meets its contract: each turn writes the entry of the letter that it reads.
-- Assumes nothing.
use Rattle.words.specs.Letters.{order_of}
use Rattle.letters.specs.Compared.{order_number}
use Rattle.letters.specs.Keyed.{row}
use Rattle.factors.proofs.Tabling.{Filling}
use Rattle.factors.proofs.suffix_table.fill.Given as goal

abbrev pub invariant-loop-end : goal.invariant-loop-end
invariant-loop-end l = Filling (order_of (order_number l.fn.text.order)) (row l.text.letters) l.initial.out l.out l.start (record { period = l.period; end = l.end })
