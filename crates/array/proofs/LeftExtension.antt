-- How far a period goes on to the left.
-- Assumes nothing.
use mathlib.Core.Path.{◌≡◌}
use mathlib.Core.List.{List}
use Prim.Native.Nat.{ℕ, ◌+◌, ◌<◌, ◌≤◌}
use Rattle.words.specs.Laws.SpanLyndon.{letters}

-- The letters from s up to i continue the period.
pub record LeftSoFar (x : List ℕ) (i p s : ℕ) : Type 0 where
  pub low : s ≤ i
  pub left : (t : ℕ) → s ≤ t → t < i → letters 0 x t ≡ letters 0 x (t + p)
