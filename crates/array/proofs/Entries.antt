-- The entries of the Lyndon array, and where they lead.
-- Assumes nothing.
use mathlib.Core.Path.{◌≡◌}
use mathlib.Core.List.{List}
use Prim.Native.Nat.{ℕ, ◌+◌, ◌<◌}
use lib.ListN.{length, get_or}
use Rattle.words.specs.Compute.LyndonArray.{array_of, array_of_holds}
use Rattle.words.specs.Laws.ArrayNext.{array_next}
use Rattle.words.specs.Laws.Compared.{AllCompared, decided_compared}
use Rattle.words.specs.Laws.SpanLyndon.{letters}
use Rattle.words.specs.Laws.SuffixOrder.{NextSmaller}
use Rattle.words.specs.Letters.{order_of}
use Rattle.words.specs.Decided.{decided_order}
use Rattle.array.specs.Core.Rows.{entry_of, RowsOf}
use Rattle.array.proofs.RowLaws.{front}

-- Any two letters of a text compare.
pub letters_compared : (order : ℕ) (x : List ℕ) → AllCompared (order_of order) (letters 0 x) (length x)
letters_compared order x = decided_compared (decided_order order) (letters 0 x) (length x)

-- The entry at t leads to the next smaller suffix.
pub entry_next : (order : ℕ) (x : List ℕ) (t : ℕ) → t < length x → NextSmaller (order_of order) (letters 0 x) (length x) t (t + entry_of order x t)
unfolding entry_of
entry_next order x t l =
    array_next (order_of order) 0 x (letters_compared order x) (array_of (decided_order order) x) (array_of_holds (decided_order order) x) t l

-- The rows hold the entry of the position that they start at.
pub entry_own : (order : ℕ) (x buf : List ℕ) (j : ℕ) → j < length x → RowsOf order x buf j → get_or buf j 0 ≡ entry_of order x j
entry_own order x buf j l r = (front l r).own
