-- What the join loop asks for and hands back.
-- Assumes nothing.
use Rattle.std.specs.Prelude.{◌≡◌, List, ℕ, ◌+◌, ◌<◌, ◌≤◌, length}
use Rattle.words.specs.Laws.Position.{Agree}
use Rattle.words.specs.Laws.SpanLyndon.{letters}
use Rattle.words.specs.Laws.SuffixOrder.{NextSmaller}
use Rattle.words.specs.Letters.{order_of}
use Rattle.answer.specs.Limits.{max_length}
use Rattle.answer.specs.Content.{Kept}
use Rattle.std.specs.declared.cmp.Ordering.{Ordering}
use Rattle.std.specs.declared.cmp.Ordering.TheVariants.{Less, Equal, Greater}
use Rattle.array.specs.declared.joined.Joined.{Joined}
use Rattle.array.specs.Core.Joining.{Joining}
use Rattle.array.specs.Core.Rows.{entry_of, RowsOf}

-- The word from i to j, and the factor of length l at j, are equal.
abbrev pub SameWord : List ℕ → ℕ → ℕ → ℕ → Type 0
SameWord x i j l = (i + l ≡ j) × Agree (letters 0 x) i j l

-- What the comparison that ended the joining of the word from i at j says; k is how far it went.
abbrev pub Stopped : ℕ → List ℕ → ℕ → ℕ → ℕ → Ordering → Type 0
Stopped order x i j k Less = ⊥
Stopped order x i j k Equal = (j < length x) × SameWord x i j (entry_of order x j)
Stopped order x i j k Greater =
    j < length x →
    (¬ SameWord x i j (entry_of order x j)) × (k < entry_of order x j → ¬ (letters 0 x (i + k) ≡ letters 0 x (j + k)))

-- The suffixes at i and at j agree on k letters.
pub record Agreeing (x : List ℕ) (i j k : ℕ) : Type 0 where
  pub agree : Agree (letters 0 x) i j k
  pub within : j + k ≤ length x

-- What joining at position i asks for: the factors after it are in the buffer.
pub record JoinReady (order : ℕ) (x buf : List ℕ) (i : ℕ) : Type 0 where
  pub inside : i < length x
  pub fits : length x ≤ length buf
  pub small : length x ≤ max_length
  pub rows : RowsOf order x buf (i + 1)

-- The places up to i, and those from n on.
abbrev pub Outside : ℕ → ℕ → ℕ → Type 0
Outside i n t = ¬ ((i < t) × (t < n))

-- The word from i is joined up to its next smaller suffix.
pub record JoinedTo (order : ℕ) (x before after : List ℕ) (i : ℕ) (r : Joined) : Type 0 where
  pub changed : Kept (Outside i (length x)) before after
  pub joining : Joining (order_of order) (letters 0 x) (length x) (entry_of order x) (letters 0 after) i r.end r.agreed r.part
  pub next : NextSmaller (order_of order) (letters 0 x) (length x) i r.end
  pub stopped : Stopped order x i r.end r.agreed r.stop
