-- `array::runs::Pass::run` meets its contract: the positions from i on have been visited, and in the end every last place has its entry back.
-- Assumes nothing.
use mathlib.Core.Path.{◌≡◌}
use Rattle.letters.specs.Compared.{order_number}
use Rattle.letters.specs.Keyed.{row}
use Rattle.array.proofs.PassLaws.{Passing}
use Rattle.array.proofs.runs.Pass.run.Given as goal

abbrev pub invariant-loop-i : goal.invariant-loop-i
invariant-loop-i g l =
    (l.found.list.ghost_name ≡ l.initial.found.list.ghost_name) ×
    Passing (order_number l.self.order) (row l.self.text) l.buf l.initial.found.list.now l.found.list.now l.initial.found.count l.i l.found.count
