-- Why the walks from each position find the least crossing: it is met from its innermost earlier span.
-- Assumes nothing.
use mathlib.Core.Path.{◌≡◌, refl, sym, ap, subst, ◌∙◌}
use mathlib.Core.List.{List}
use Prim.Native.Nat.{ℕ, zero, suc, ◌<◌, ◌≤◌}
use native.Mathlib.Omega.{arith}
use lib.ListN.{length}
use Rattle.std.specs.Prelude.{Bool, true, false, ltb, Option}
use Rattle.std.specs.Bool.{then_some}
use Rattle.std.specs.Option.{unwrap_or}
use Rattle.std.proofs.Common.{ltb-false}
use Rattle.words.specs.ValidArray.{Crosses}
use Rattle.words.specs.ArrayForest.{end_of}
use Rattle.words.specs.Laws.ValidSpans.{Innermost, InnermostCase, held, unheld, innermost_case}
use Rattle.valid_array.specs.Checked.{EntriesInRange, LeastCrossing}

-- The walk from i has come to k: no span below k whose innermost one is that of i crosses its end.
pub record Walk (a : List ℕ) (i k : ℕ) : Type 0 where
  pub after : i < k
  pub reached : k ≤ end_of a i
  pub passed : (j : ℕ) → j < k → Innermost a j j i → end_of a j ≤ end_of a i

-- Walks were made from all positions below i, and least is the least crossing that they found.
pub record Walked (a : List ℕ) (i least : ℕ) : Type 0 where
  pub within : least ≤ length a
  pub found : least < length a → Crosses a least
  pub passed : (j m : ℕ) → j < least → m < i → Innermost a j j m → end_of a j ≤ end_of a m

-- Where walks were made from all positions below the least crossing found, there is none below it.
module _ (a : List ℕ) (i least : ℕ) (w : Walked a i least) (all : least ≤ i) where
  none_below : (d j : ℕ) → j < d → j < least → ¬ Crosses a j
  none_below zero j p l c = omega arith
  none_below (suc d) j p l c = go (innermost_case a j j) (none_below d)
    where
      go : InnermostCase a j j → ((j : ℕ) → j < d → j < least → ¬ Crosses a j) → ⊥
      go (unheld e u) rest = omega (arith, u c.earlier c.before, c.holds)
      go (held m e n) rest =
          let s : end_of a j ≤ end_of a m = w.passed j m l (omega (arith, n.below)) n in
          let crosses : c.earlier < m → Crosses a m =
          λ q. record { earlier = c.earlier; before = q; holds = omega (arith, n.below, c.holds); past = omega (arith, c.past, s) } in
          grind (arith, s, crosses, rest m, n.below, n.last c.earlier, c.before, c.holds, c.past)

  least_found : LeastCrossing a least
  least_found =
      record {
        within = w.within;
        found = w.found;
        least = λ j l. none_below (suc j) j (omega arith) l;
      }

  -- The least crossing as the code gives it.
  pub walked_ends : (r : Option ℕ) → r ≡ then_some (ltb least (length a)) least → LeastCrossing a (unwrap_or r (length a))
  walked_ends r e = subst (LeastCrossing a) (sym (ap (λ (o : Option ℕ). unwrap_or o (length a)) e ∙ given (ltb least (length a)) refl)) least_found
    where
      given : (b : Bool) → ltb least (length a) ≡ b → unwrap_or (then_some b least) (length a) ≡ least
      given true f = refl
      given false f = omega (arith, ltb-false least (length a) f, w.within)
