-- That a text has a run list, where it is decided which of its letters are the same.
-- Assumes nothing.
use Rattle.std.specs.Prelude.{◌≡◌, ℕ, ◌<◌, length}
use Rattle.std.proofs.Common.{sym, ap, ◌∙◌, arith}
use mathlib.Core.List.{List, [], ◌∷◌}
use Rattle.std.proofs.Math.Option.{some, some-injective}
use Rattle.words.specs.Runs.{Entry, IsRunList, SameLetter}
use Rattle.words.specs.ExactlyOne.{ExactlyOne}
use Rattle.words.proofs.ExactlyOne.{run_list_for_all}
use Rattle.words.specs.Laws.Members.{position_member}
use Rattle.words.specs.Laws.SpanLyndon.{letters}
use Rattle.words.specs.Laws.Periods.{get_elem?_letter}
use Rattle.words.proofs.Laws.RunExistence.{decided_run_list}
use Rattle.words.specs.Existence.{LettersDecided, only_one}

-- A text of whose letters it is decided which are the same has exactly one run list.
pub decided_runs {ℓ} : {A : Type ℓ} (x : List A) → LettersDecided x → (rs : List Entry) × ExactlyOne (IsRunList x) rs
decided_runs {A = A} x decided = only_one (run_list_for_all x) (decided_run_list x (λ i j h l. at x decided i j h l))
  where
    at : (y : List A) → LettersDecided y → (i j : ℕ) → i < length y → j < length y → Dec (SameLetter y i j)
    at [] c i j h l = absurd (omega arith)
    at (z ∷ y) c i j h l =
        go (c (letters z (z ∷ y) i) (letters z (z ∷ y) j) (position_member z (z ∷ y) i h) (position_member z (z ∷ y) j l))
      where
        go : Dec (letters z (z ∷ y) i ≡ letters z (z ∷ y) j) → Dec (SameLetter (z ∷ y) i j)
        go (yes e) = yes (get_elem?_letter z (z ∷ y) i h ∙ ap some e ∙ sym (get_elem?_letter z (z ∷ y) j l))
        go (no n) =
            no (λ e. n (some-injective _ _ (sym (get_elem?_letter z (z ∷ y) i h) ∙ e ∙ get_elem?_letter z (z ∷ y) j l)))
