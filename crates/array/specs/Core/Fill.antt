-- The rows of a whole text, and its array once they are restored.
-- Assumes nothing.
use Rattle.std.specs.Prelude.{◌≡◌, List, ℕ, length}
use Rattle.words.specs.Compute.LyndonArray.{array_of}
use Rattle.words.specs.Decided.{decided_order}
use Rattle.array.specs.Core.Rows.{RowsOf}

-- The buffer holds the rows of some text of as many letters as it has places.
pub record HasRows (buf : List ℕ) : Type 0 where
  pub order : ℕ
  pub text : List ℕ
  pub size : length text ≡ length buf
  pub rows : RowsOf order text buf 0

-- All entries are final: the buffer holds the array of every such text whose rows it held.
pub record AllRestored (before after : List ℕ) : Type 0 where
  pub final : (order : ℕ) (x : List ℕ) → length x ≡ length before → RowsOf order x before 0 → after ≡ array_of (decided_order order) x
