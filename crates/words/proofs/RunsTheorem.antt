-- The runs theorem of Bannai and others (document 004, section 1.1; document 002, "Runs (3)", names them beside n − 3): a text of n ≥ 1 letters has
-- at most n − 1 runs (document 02, E4). Letters are of any kind, under no order, and it need not be decided which of them are equal.
-- Assumes nothing.
use Rattle.std.specs.Prelude.{◌≡◌, refl, ◌<◌, length}
use mathlib.Core.List.{List, [], ◌∷◌, Memᴰ}
use Rattle.words.specs.Different.{Different}
use Rattle.words.specs.Equality.{decided_number_equality}
use Rattle.words.specs.Runs.{Entry, IsRun, IsRunList, numbers}
use Rattle.words.specs.Compute.Runs.{runs_of}
use Rattle.words.proofs.Laws.RunCount.{runs_fewer, run_list_fewer}

module _ {ℓ} {A : Type ℓ} (x : List A) (some : 0 < length x) where
  -- Any list of different runs is shorter than the text.
  pub fewer_runs_than_letters : (rs : List Entry) → Different rs → ((r : Entry) → Memᴰ r rs → IsRun x r) → length rs < length x
  fewer_runs_than_letters = runs_fewer x some

  -- So is its run list.
  pub run_list_shorter : (rs : List Entry) → IsRunList x rs → length rs < length x
  run_list_shorter = run_list_fewer x some

-- No smaller bound holds for n = 2: `aa` has one run, from 0 to 1 with period 1. 97 is a.
bound_reached : numbers (runs_of decided_number_equality (97 ∷ 97 ∷ [])) ≡ 0 ∷ 1 ∷ 1 ∷ []
bound_reached = refl
