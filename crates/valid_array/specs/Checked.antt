-- What the steps of the check of an array tell.
-- Assumes nothing.
use Rattle.std.specs.Prelude.{List, ℕ, ◌<◌, ◌≤◌, length}
use Rattle.words.specs.ValidArray.{InRange, Crosses}
use Rattle.words.specs.ArrayForest.{end_of}
use Rattle.words.specs.Laws.ValidSpans.{Innermost}

-- Every entry is at least 1 and at most n − i.
pub record EntriesInRange (a : List ℕ) : Type 0 where
  pub at : (i : ℕ) → i < length a → InRange a i

-- r is a crossing found from the span of i, or the length where there is none: below r no span whose innermost one is that of i crosses its end.
pub record CrossingFrom (a : List ℕ) (i r : ℕ) : Type 0 where
  pub within : r ≤ length a
  pub found : r < length a → Crosses a r
  pub passed : (j : ℕ) → j < r → Innermost a j j i → end_of a j ≤ end_of a i

-- r is the least crossing, or the length where there is none.
pub record LeastCrossing (a : List ℕ) (r : ℕ) : Type 0 where
  pub within : r ≤ length a
  pub found : r < length a → Crosses a r
  pub least : (j : ℕ) → j < r → ¬ Crosses a j
