-- A text has one run list.
-- Assumes nothing.
use Rattle.std.specs.Prelude.{◌≡◌}
use mathlib.Core.List.{List}
use Rattle.words.specs.Runs.{Entry, Earlier, IsRunList}
use Rattle.words.specs.Laws.Sorted.{sorted_unique}
use Rattle.words.specs.Laws.Runs.{earlier_not_both}

-- A text has at most one run list.
pub run_list_unique {ℓ} : {A : Type ℓ} {x : List A} {rs ts : List Entry} → IsRunList x rs → IsRunList x ts → rs ≡ ts
run_list_unique {rs = rs} {ts = ts} a b =
    sorted_unique Earlier earlier_not_both rs ts a.sorted b.sorted (λ r m. b.complete r (a.sound r m)) (λ r m. a.complete r (b.sound r m))
