-- `factors::factorization::list_factors` meets its contract: each turn lists the factor that the definition lists.
-- Assumes nothing.
use native.Mathlib.Omega.{arith}
use Rattle.factors.proofs.Listing.{listing_start, listing_counts, listing_scanned, listing_kept, listing_step, listing_end}
use Rattle.factors.proofs.factorization.list_factors.Goals as goal
use Rattle.factors.proofs.factorization.list_factors.Goals.{then-s-start, else-s-start}

pub loop-start-init : goal.loop-start-init
loop-start-init c = listing_start _ _ _

pub overflow_add-comparisons : goal.overflow_add-comparisons
overflow_add-comparisons c = omega (arith, c.comparisons.ensures.count, listing_counts _ _ _ _ _ _ _ c.requires c.loop-start.invariant (omega arith))

pub loop-start-preserved : goal.loop-start-preserved
loop-start-preserved c =
    let w = c.loop-start.invariant in
    elim c.if-s-start.branch [
      | then-s-start b ↦
          let found = listing_scanned _ _ _ _ _ _ _ c.requires w (omega arith) b.if-s-start.true _ b.scan-s.ensures.stretch b.len-then-s-start.ensures
          b.comparisons.ensures.count in
          rw (b.s-is, b.comparisons-is) (listing_step _ _ _ _ _ _ _ c.requires w (omega arith) _ found)
      | else-s-start b ↦
          let kept = listing_kept _ _ _ _ _ _ _ c.requires w b.if-s-start.false in
          rw (b.s-is, b.comparisons-is) (listing_step _ _ _ _ _ _ _ c.requires w (omega arith) _ kept)
    ]

pub returns : goal.returns
returns c = record { content = listing_end _ _ _ _ _ _ _ c.requires c.loop-start.invariant (omega arith) }
