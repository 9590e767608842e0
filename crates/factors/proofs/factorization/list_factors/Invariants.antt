-- `factors::factorization::list_factors` meets its contract: each turn lists the factor that the definition lists.
-- Assumes nothing.
use Prim.Native.Nat.{◌-◌}
use lib.ListN.{length}
use Rattle.words.specs.Decided.{decided_order}
use Rattle.letters.specs.Compared.{order_number}
use Rattle.letters.specs.Keyed.{row}
use Rattle.factors.specs.DuvalSteps.{counted}
use Rattle.factors.proofs.Listing.{Listing}
use Rattle.factors.proofs.factorization.list_factors.Given as goal

abbrev pub invariant-loop-start : goal.invariant-loop-start
invariant-loop-start l =
    Listing (decided_order (order_number l.text.order)) (row l.text.letters) l.initial.out l.out l.count l.start (counted l.s l.comparisons)

abbrev pub decreases-loop-start : goal.decreases-loop-start
decreases-loop-start l = length (row l.text.letters) - l.start
