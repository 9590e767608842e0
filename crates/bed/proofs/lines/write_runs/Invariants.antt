-- `bed::lines::write_runs` meets its contract. The loop's invariant: the lines of the runs so far are written, none longer than the limit.
-- Assumes nothing.
use mathlib.Core.List.{List, map}
use Prim.Native.Nat.{ℕ, ◌*◌, ◌≤◌}
use lib.ListN.{take}
use Rattle.bed.specs.declared.text.Text.{Text}
use Rattle.bed.specs.Bed.{bed_lines, entry_in}
use Rattle.bed.specs.Limits.{max_line}
use Rattle.bed.specs.Text.{Wrote}
use Rattle.bed.proofs.lines.write_runs.Given as goal

-- What the loop keeps.
pub record LinesWritten (name : List ℕ) (runs : List (List ℕ)) (first now : Text) (i : ℕ) : Type 0 where
  pub wrote : Wrote first now (bed_lines name (map entry_in (take i runs)))
  pub within : now.len ≤ max_line * i

abbrev pub invariant-loop-start : goal.invariant-loop-start
invariant-loop-start l = LinesWritten l.name l.runs l.initial.text l.text l.start-index
