-- What the search for the period of a span finds.
-- Assumes nothing.
use Rattle.std.specs.Prelude.{◌≡◌, List, ℕ, ◌-◌, ◌/◌, ◌≤◌, length}
use Rattle.std.proofs.Common.{ap}
use Rattle.std.proofs.Math.Option.{Option, none, some}
use Rattle.words.specs.Equality.{DecidedEquality}
use Rattle.words.specs.Runs.{Run}
use Rattle.words.specs.Compute.Search.{first_from, first_from_holds}
use Rattle.words.specs.Laws.Runs.{run_period_unique}
use Rattle.words.specs.Compute.Runs.{has_period, period_of}
use Rattle.words.specs.Laws.RunTests.{Found, period_kept_right}

module _ {ℓ} {A : Type ℓ} (E : DecidedEquality A) (x : List A) where
  pub period_of_holds : (s e : ℕ) → e ≤ length x → Found x s e (period_of E x s e)
  period_of_holds s e l =
      let d : ℕ = (e - s) / 2 in
      period_kept_right E x s e l (first_from (has_period E x s e) 1 d) (first_from_holds (has_period E x s e) 1 d)

  -- A run is found.
  pub period_of_run : (s e p : ℕ) → Run x s e p → period_of E x s e ≡ some p
  period_of_run s e p r = go (period_of E x s e) (period_of_holds s e r.inside)
    where
      go : (o : Option ℕ) → Found x s e o → o ≡ some p
      go none n = absurd (n p r)
      go (some q) t = ap some (run_period_unique t r)
