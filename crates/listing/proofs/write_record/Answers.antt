-- `listing::write_record` meets its contract: the run call accepts the letters, its list holds their runs, and there is room for their lines.
-- Assumes nothing.
use Rattle.std.proofs.Common.{◌≡◌, ap, ◌∙◌, ℕ, ◌*◌, ◌≤◌, ◌<◌, List, length, arith}
use Rattle.answer.specs.declared.Answer.{Answer}
use Rattle.answer.specs.Answers.{accepted_with, value}
use Rattle.answer.specs.AfterCall.{written, content_after}
use Rattle.answer.specs.ContentLaws.{written_as}
use Rattle.answer.specs.Limits.{max_letters, run_list_length, work_length}
use Rattle.checks.specs.CheckLaws.{runs_passes}
use Rattle.array.specs.Calls.{run_list, run_numbers, runs_answer}
use Rattle.bed.specs.Limits.{max_line}
use Rattle.bed.specs.Bed.{bed_lines}
use Rattle.bed.specs.Laws.Bed.{lines_fit}
use Rattle.listing.specs.Laws.Listing.{entries_held, runs_within}
use Rattle.listing.proofs.write_record.Goals as goal

-- The runs of a text that the reader hands on are found.
runs_found :
    (x : List ℕ) (work list : ℕ) → 0 < length x → length x ≤ max_letters → work_length max_letters ≤ work → list ≡ run_list_length max_letters
    → runs_answer x work list ≡ accepted_with (length (run_list x))
runs_found x work list h k v w =
    runs_passes (length x) (record { some = h; short = omega arith }) _ list work (omega arith) (omega arith)

pub returns : goal.returns
returns c =
    let name = c.args.name.now in
    let x = c.args.letters.now in
    let list = c.runs.new.list in
    let found : c.runs.result ≡ accepted_with (length (run_list x)) =
    c.runs.ensures.answer ∙ runs_found x _ _ c.requires.some_letters c.requires.letters_fit (omega arith) (omega arith) in
    let held : list ≡ written (run_numbers x) _ = c.runs.ensures.entries ∙ ap (λ (a : Answer). content_after a (run_numbers x) _) found in
    let count : c.value-count.result ≡ length (run_list x) = c.value-count.ensures.value ∙ ap value found in
    let within : 3 * c.value-count.result ≤ length list = runs_within x _ _ _ count held in
    let room : max_line * c.value-count.result ≤ length c.args.out.now = omega arith in
    record {
      content =
          written_as c.write_lines.ensures.content
          (lines_fit name list c.value-count.result (length c.args.out.now) c.requires.name_fits within room ∙
          ap (bed_lines name) (entries_held x _ _ _ count held));
    }
