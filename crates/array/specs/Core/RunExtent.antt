-- How far a period goes on around a position where the join loop has stopped.
-- Assumes nothing.
use Rattle.std.specs.Prelude.{◌≡◌, List, ℕ, suc, ◌+◌, ◌<◌, ◌≤◌, length, get_or}
use Rattle.words.specs.Laws.Position.{Agree}
use Rattle.words.specs.Laws.SpanLyndon.{letters}
use Rattle.words.specs.Laws.SuffixOrder.{NextSmaller}
use Rattle.words.specs.Letters.{rising}
use Rattle.std.specs.declared.cmp.Ordering.{Ordering}
use Rattle.std.specs.declared.cmp.Ordering.TheVariants.{Less, Equal, Greater}
use Rattle.array.specs.Core.Join.{Stopped, Agreeing}
use Rattle.array.specs.Core.Rows.{entry_of}

-- The join loop of i has stopped at j after k letters.
pub record StoppedAt (x buf : List ℕ) (i j k : ℕ) (stop : Ordering) : Type 0 where
  pub order : ℕ
  pub after : i < j
  pub inside : j ≤ length x
  pub fits : length x ≤ length buf
  pub own : j < length x → get_or buf j 0 ≡ entry_of order x j
  pub agreeing : j < length x → Agreeing x i j k
  pub stopped : Stopped order x i j k stop

-- The suffixes at i and j agree on k letters and no more.
pub record Exact (x : List ℕ) (i j k : ℕ) : Type 0 where
  pub agree : Agree (letters 0 x) i j k
  pub within : j + k ≤ length x
  pub stops : j + k < length x → ¬ (letters 0 x (i + k) ≡ letters 0 x (j + k))

-- How far they agree, by the comparison that stopped the joining.
abbrev pub ExtendedTo : List ℕ → ℕ → ℕ → ℕ → Ordering → Type 0
ExtendedTo x i j k Less = Unit {0}
ExtendedTo x i j k Equal = Agreeing x i j k
ExtendedTo x i j k Greater = Exact x i j k

-- The letters from s up to i continue period p to the left, and none before them does.
pub record LeftExtent (x : List ℕ) (i p s : ℕ) : Type 0 where
  pub low : s ≤ i
  pub left : (t : ℕ) → s ≤ t → t < i → letters 0 x t ≡ letters 0 x (t + p)
  pub left_stops : (t : ℕ) → s ≡ suc t → ¬ (letters 0 x t ≡ letters 0 x (t + p))

-- The next smaller suffix after i is at j, the two agree on k letters and no more, and k is less than their distance.
pub record AtRoot (x : List ℕ) (i j k : ℕ) : Type 0 where
  pub next : NextSmaller rising (letters 0 x) (length x) i j
  pub exact : Exact x i j k
  pub short : i + k < j
