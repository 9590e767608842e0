-- `from_array::spans::Spans::write_first` meets its contract: in a turn the positions are marked whose innermost span is that of `i`.
-- Assumes nothing.
use Rattle.std.proofs.Common.{arith}
use Rattle.from_array.proofs.Filling.{first_goes_on}
use Rattle.from_array.proofs.spans.Spans.write_first.Goals as goal

pub loop-i-preserved : goal.loop-i-preserved
loop-i-preserved c = search (arith, first_goes_on)
