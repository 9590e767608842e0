-- Buffers that hold the values of a function, one for each entry of the array, and no more.
-- Assumes nothing.
use mathlib.Core.Path.{◌≡◌, sym, ap, ◌∙◌}
use mathlib.Core.List.{List}
use Prim.Native.Nat.{ℕ, ◌<◌, ◌≤◌}
use native.Mathlib.Omega.{arith}
use lib.ListN.{length, get_or}
use Rattle.std.proofs.Common.{zero-add, ext_get_or}
use Rattle.words.specs.Tabulate.{tabulate}
use Rattle.words.specs.ArrayForest.{first_for, past_for, forest_first, forest_past}
use Rattle.words.specs.Laws.Tabulate.{length-tabulate, get_or-tabulate}
use Rattle.words.specs.Laws.ArrayForest.{length-forest_first, get_or-forest_first}
use Rattle.answer.specs.Content.{Holds}

pub tabulated : (f : ℕ → ℕ) (n : ℕ) (now : List ℕ) → length now ≡ n → ((j : ℕ) → j < n → get_or now j 0 ≡ f j) → now ≡ tabulate f 0 n
tabulated f n now size h =
    ext_get_or 0 now (tabulate f 0 n) (size ∙ sym (length-tabulate f 0 n))
    (λ j p. let q : j < n = omega (arith, size) in h j q ∙ sym (get_or-tabulate f 0 n j q ∙ ap f (zero-add j)))

module _ (a : List ℕ) where
  -- FIRST, read place by place.
  pub first_places : (first : List ℕ) → first ≡ forest_first a → length first ≡ length a
  first_places first e = ap length e ∙ length-forest_first a

  pub first_at : (first : List ℕ) (j : ℕ) → first ≡ forest_first a → j < length a → get_or first j 0 ≡ first_for a j
  first_at first j e h = ap (λ (l : List ℕ). get_or l j 0) e ∙ get_or-forest_first a j h

  -- PAST, once all places are written.
  pub past_ends : (j : ℕ) (before now : List ℕ) → Holds (past_for a) j before now → length before ≡ length a → length a ≤ j → now ≡ forest_past a
  past_ends j before now w size h = tabulated (past_for a) (length a) now (w.others.size ∙ size) (λ k p. w.value k (omega arith))
