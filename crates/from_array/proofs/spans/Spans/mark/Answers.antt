-- `from_array::spans::Spans::mark` meets its contract: in a turn the position that is marked stands before the end of the span, so in the array.
-- Assumes nothing.
use Rattle.from_array.proofs.Marking.{marking_goes_on}
use Rattle.from_array.proofs.spans.Spans.mark.Goals as goal

pub loop-k-preserved : goal.loop-k-preserved
loop-k-preserved c = search marking_goes_on
