-- `array::runs::Pass::list_at` meets its contract: the run is written where it has two periods and belongs to this pass.
-- Assumes nothing.
use Rattle.array.proofs.RunEntry.{too_short, not_here, run_fits, run_found}
use Rattle.array.proofs.runs.Pass.list_at.Goals as goal

pub returns-then-i-s-clause-content : goal.returns-then-i-s-clause-content
returns-then-i-s-clause-content g c = search too_short

pub returns-then-not-lists-clause-content : goal.returns-then-not-lists-clause-content
returns-then-not-lists-clause-content g c = search not_here

pub push-requires-clause-room : goal.push-requires-clause-room
push-requires-clause-room g c = search run_fits

pub returns-clause-content : goal.returns-clause-content
returns-clause-content g c = search run_found
