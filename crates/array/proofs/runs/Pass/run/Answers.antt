-- `array::runs::Pass::run` meets its contract: the positions from i on have been visited, and in the end every last place has its entry back.
-- Assumes nothing.
use mathlib.Core.Path.{refl, ◌∙◌}
use Rattle.array.proofs.PassLaws.{passing_start, passing_ready, passing_step}
use Rattle.array.proofs.runs.Pass.run.Goals as goal

pub loop-i-init : goal.loop-i-init
loop-i-init g c = (refl, search passing_start)

pub visit-requires : goal.visit-requires
visit-requires g c = search passing_ready

pub loop-i-preserved : goal.loop-i-preserved
loop-i-preserved g c = (c.visit.ensures.same_list ∙ c.loop-i.invariant.0, search passing_step)
