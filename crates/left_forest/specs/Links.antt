-- What the passes of the left forest ask of the buffers and leave in them. Of position t, start t is the start of the longest Lyndon word
-- that ends there.
-- Assumes nothing.
use Rattle.std.specs.Prelude.{◌≡◌, List, ℕ, suc, ◌-◌, ◌<◌, ◌≤◌, length, get_or}
use Rattle.words.specs.Laws.LeftForest.{Uncrossed, FirstCrossing, Nested}
use Rattle.answer.specs.Limits.{max_length}
use Rattle.answer.specs.Content.{Kept, From}

-- The starts that a suffix table stands for.
abbrev pub start_in : List ℕ → ℕ → ℕ
start_in table t = suc t - get_or table t 0

-- FIRST holds a smaller position at each of the positions 1 to e: links can be followed down from e.
pub record Descends (first past : List ℕ) (e : ℕ) : Type 0 where
  pub small : e < max_length
  pub in_first : e < length first
  pub in_past : e < length past
  pub down : (i : ℕ) → i < e → get_or first (suc i) 0 ≤ i

-- FIRST holds the starts of the words that end before the positions 1 to e, and `last` is that of the word that ends at e.
pub record Linked (start : ℕ → ℕ) (first : List ℕ) (e last : ℕ) : Type 0 where
  pub below : (i : ℕ) → i ≤ e → start i ≤ i
  pub nested : Nested start (suc e)
  pub link : (i : ℕ) → i < e → get_or first (suc i) 0 ≡ start i
  pub here : start e ≡ last

-- The positions that the word ending at e is the first to cross have got e + 1 in PAST; those crossed before, and those behind e, keep what they had.
pub record Closes (start : ℕ → ℕ) (before after : List ℕ) (e : ℕ) : Type 0 where
  pub closed : (j : ℕ) → FirstCrossing start j e → get_or after j 0 ≡ suc e
  pub done : (j d : ℕ) → d < e → FirstCrossing start j d → get_or after j 0 ≡ get_or before j 0
  pub others : Kept (From (suc e)) before after

-- PAST holds a suffix table, whose words are nested, and FIRST is as long.
pub record Linkable (first table : List ℕ) : Type 0 where
  pub short : length table ≤ max_length
  pub same : length first ≡ length table
  pub positive : (t : ℕ) → t < length table → 0 < get_or table t 0
  pub fits : (t : ℕ) → t < length table → get_or table t 0 ≤ suc t
  pub nested : Nested (start_in table) (length table)

-- The first e words have been read from the table: FIRST has their starts, one place further on, but for the last, which is `last`; PAST
-- has the ends at the positions that they cross. The rest of both buffers is as it was.
pub record Crossed (before table first past : List ℕ) (e last : ℕ) : Type 0 where
  pub small : last ≤ e
  pub link : (i : ℕ) → suc i < e → get_or first (suc i) 0 ≡ start_in table i
  pub here : (i : ℕ) → suc i ≡ e → start_in table i ≡ last
  pub closed : (j d : ℕ) → d < e → FirstCrossing (start_in table) j d → get_or past j 0 ≡ suc d
  pub in_first : Kept (From e) before first
  pub in_past : Kept (From e) table past

-- In a buffer the positions up to e that no word crosses have got themselves; those that one crosses, and those behind e, keep what they had.
pub record OwnRoots (start : ℕ → ℕ) (before after : List ℕ) (e : ℕ) : Type 0 where
  pub own : (j : ℕ) → j ≤ e → Uncrossed start (suc e) j → get_or after j 0 ≡ j
  pub kept : (j d : ℕ) → d ≤ e → FirstCrossing start j d → get_or after j 0 ≡ get_or before j 0
  pub others : Kept (From (suc e)) before after
