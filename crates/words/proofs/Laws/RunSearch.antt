-- The list that is computed by search is the run list.
-- Assumes nothing.
use Rattle.std.specs.Prelude.{refl, ℕ, suc, ◌-◌, length}
use Rattle.std.proofs.Common.{subst, arith}
use mathlib.Core.List.{List, [], ◌∷◌, ◌++◌, Memᴰ}
use Rattle.words.specs.Equality.{DecidedEquality}
use Rattle.words.specs.Runs.{Entry, IsRun, IsRunList}
use Rattle.words.specs.Compute.Runs.{entry_at, runs_from, runs_of}
use Rattle.words.specs.Laws.RunTests.{Found}
use Rattle.words.proofs.Laws.RunTests.{period_of_holds, period_of_run}
use Rattle.words.specs.Laws.RunSearch.{FromPart, list_from_part, part_list_from, Searched, runs_from_member, runs_of_sorted}

module _ {ℓ} {A : Type ℓ} (E : DecidedEquality A) (x : List A) where
  pub runs_of_sound : (r : Entry) → Memᴰ r (runs_of E x) → IsRun x r
  runs_of_sound r m =
      let w : FromPart (runs_from E x) 0 (length x) r = list_from_part (runs_from E x) 0 (length x) r m in
      let v : Searched E x r = (runs_from_member E x w.place r w.member).1 in
      subst (Found x r.start (suc r.last)) v.found (period_of_holds E x r.start (suc r.last) v.inside)

  pub runs_of_complete : (r : Entry) → IsRun x r → Memᴰ r (runs_of E x)
  runs_of_complete r h =
      let s : ℕ = r.start in
      let l : ℕ = r.last in
      let here : Memᴰ r (entry_at E x s l) = rw (period_of_run E x s (suc l) r.period h) (mathlib.Core.List.Memᴰ.head refl) in
      let row : Memᴰ r (runs_from E x s) =
      part_list_from (entry_at E x s) s (length x - s) r l (omega arith) (omega arith) here in
      part_list_from (runs_from E x) 0 (length x) r s (omega arith) (omega arith) row

  -- runs_of computes the run list.
  pub runs_of_holds : IsRunList x (runs_of E x)
  runs_of_holds = record { sound = runs_of_sound; complete = runs_of_complete; sorted = runs_of_sorted E x }
