-- `bed::lines::write_runs` meets its contract: each turn writes the line of one run more.
-- Assumes nothing.
use mathlib.Core.Path.{◌≡◌, sym, ap, ◌∙◌}
use mathlib.Core.List.{List, [], ◌∷◌, ◌++◌, map}
use Prim.Native.Nat.{ℕ, ◌+◌, ◌<◌}
use native.Mathlib.Omega.{arith}
use lib.ListN.{length, get_or, take}
use Rattle.std.proofs.Common.{rules}
use Rattle.std.proofs.lemmas.List.{take_more, map-append}
use Rattle.bed.specs.Bed.{bed_line, bed_lines, entry_in}
use Rattle.bed.specs.Text.{wrote_then, wrote_as, wrote_size}
use Rattle.bed.specs.Laws.Bed.{line_length, lines_more}
use Rattle.bed.proofs.lines.write_runs.Goals as goal

-- The line of the run at place i of a list of rows, behind those of the runs before.
next_line : (name : List ℕ) (runs : List (List ℕ)) (i : ℕ) → i < length runs →
    bed_lines name (map entry_in (take (i + 1) runs)) ≡ bed_lines name (map entry_in (take i runs)) ++ bed_line name (entry_in (get_or runs i []))
next_line name runs i h =
    ap (λ (rs : List (List ℕ)). bed_lines name (map entry_in rs)) (take_more runs i [] h)
    ∙ ap (bed_lines name) (map-append entry_in (take i runs) (get_or runs i [] ∷ []))
    ∙ lines_more name (map entry_in (take i runs)) (entry_in (get_or runs i []))

pub write_line-requires : goal.write_line-requires
write_line-requires c =
    let run : List ℕ = get_or c.args.runs.now c.loop-start.start-index [] in
    let line = line_length c.args.name.now (get_or run 0 0) (get_or run 1 0) (get_or run 2 0) c.requires.name_fits (search rules) (search rules) (search rules) in
    omega (arith, line, wrote_size c.loop-start.invariant.wrote, ap length c.new-text.ensures.bytes)

pub loop-start-preserved : goal.loop-start-preserved
loop-start-preserved c =
    let run : List ℕ = get_or c.args.runs.now c.loop-start.start-index [] in
    let line = line_length c.args.name.now (get_or run 0 0) (get_or run 1 0) (get_or run 2 0) c.requires.name_fits (search rules) (search rules) (search rules) in
    record {
      wrote = wrote_as (wrote_then c.loop-start.invariant.wrote c.write_line.ensures.wrote)
          (sym (next_line c.args.name.now c.args.runs.now c.loop-start.start-index c.loop-start-test.true));
      within = omega (arith, line, c.write_line.ensures.wrote.written.past);
    }
