-- `array::runs::Pass::extended` meets its contract: each case by the comparison that stopped the joining.
-- Assumes nothing.
use native.Mathlib.Omega.{arith}
use Rattle.array.proofs.Extension.{extended_further, further_fits}
use Rattle.array.proofs.runs.Pass.extended.Goals as goal

pub overflow_add-result : goal.overflow_add-result
overflow_add-result g c =
    omega (arith, further_fits _ _ _ _ _ _ c.requires c.len.ensures c.if-len-word.false _ c.agreement-more.ensures.result)

pub returns : goal.returns
returns g c = record { result = search extended_further }
