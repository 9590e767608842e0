-- `valid_array::spans::least_crossing` meets its contract: where the loop ends, walks were made from all positions below `least`.
-- Assumes nothing.
use Rattle.std.proofs.Common.{◌≤◌, arith}
use Rattle.valid_array.proofs.Crossings.{walked_ends}
use Rattle.valid_array.proofs.spans.least_crossing.Goals as goal

pub returns-clause-result : goal.returns-clause-result
returns-clause-result c =
    let all : c.loop-i.least ≤ c.loop-i.i = grind (arith, c.loop-i.invariant.within) in
    search walked_ends
