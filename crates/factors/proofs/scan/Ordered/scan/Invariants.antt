-- `factors::scan::Ordered::scan` meets its contract: each turn of the loop is one step of the definition.
-- Assumes nothing.
use Rattle.words.specs.Decided.{decided_order}
use Rattle.letters.specs.Compared.{order_number}
use Rattle.letters.specs.Keyed.{row}
use Rattle.factors.proofs.Scanning.{Scanning}
use Rattle.factors.proofs.scan.Ordered.scan.Given as goal

abbrev pub invariant-loop-end : goal.invariant-loop-end
invariant-loop-end l = Scanning (decided_order (order_number l.fn.self.order)) (row l.self.letters) l.start (record { period = l.period; end = l.end })
