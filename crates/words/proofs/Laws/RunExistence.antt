-- That a text over letters of any kind has a run list cannot be refuted: where it is decided which of its letters are equal, it has one.
-- Assumes nothing.
use Rattle.std.specs.Prelude.{List, ℕ, ◌<◌, length}
use Rattle.words.specs.Equality.{decided_number_equality}
use Rattle.words.specs.Runs.{SameLetter, Entry, IsRunList}
use Rattle.words.specs.Compute.Runs.{runs_of}
use Rattle.words.proofs.Laws.RunSearch.{runs_of_holds}
use Rattle.words.specs.Laws.RunRenaming.{same_equalities_sym}
use Rattle.words.proofs.Laws.RunRenaming.{run_list_carried}
use Rattle.words.specs.Laws.RunExistence.{letters_numbered, equalities_irrefutable}

module _ {ℓ} {A : Type ℓ} (x : List A) (decided : (i j : ℕ) → i < length x → j < length x → Dec (SameLetter x i j)) where
  -- The text has a run list.
  pub decided_run_list : (rs : List Entry) × IsRunList x rs
  decided_run_list =
      let alike = letters_numbered x decided in
      (runs_of decided_number_equality alike.0, run_list_carried (same_equalities_sym alike.1) (runs_of_holds decided_number_equality alike.0))

-- That a text has a run list cannot be refuted.
pub run_list_irrefutable {ℓ} : {A : Type ℓ} (x : List A) → ¬ ¬ ((rs : List Entry) × IsRunList x rs)
run_list_irrefutable x never = equalities_irrefutable x (λ decided. never (decided_run_list x decided))
