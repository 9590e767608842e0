-- The runs that a pass of the join loop lists, position by position. Letters are in rising order, that of their keys; the order number says which
-- runs the pass lists: under 1 not those that reach the end of the text.
-- Assumes nothing.
use Rattle.std.specs.Prelude.{◌≡◌, List, [], ◌∷◌, ℕ, ◌+◌, ◌≤◌, ◌*◌, length}
use Rattle.words.specs.Compute.LyndonArray.{array_of}
use Rattle.words.specs.Laws.EachRunOnce.{ListsDown}
use Rattle.words.specs.Laws.RunMarks.{ListedEntry, end_bound}
use Rattle.words.specs.Laws.SpanLyndon.{letters}
use Rattle.words.specs.Letters.{Letters, rising}
use Rattle.words.specs.Decided.{Decided}
use Rattle.words.specs.Runs.{Entry, numbers}
use Rattle.answer.specs.Limits.{Sized, max_length, run_list_length, work_length}
use Rattle.answer.specs.AfterCall.{written}
use Rattle.answer.specs.Content.{Written}
use Rattle.answer.specs.declared.Answer.{Answer}
use Rattle.answer.specs.Answers.{accepted_with}
use Rattle.array.specs.Calls.{run_list, run_numbers, both_arrays}
use Rattle.array.specs.Core.Join.{JoinReady}
use Rattle.array.specs.Core.Rows.{RowsOf}

-- Position i has listed its entry as entry `count`, or has none; r entries then.
pub data Listed (order : ℕ) (x before after : List ℕ) (i count r : ℕ) : Type 0 where
  skipped : r ≡ count → after ≡ before → ((e : Entry) → ¬ ListedEntry rising (letters 0 x) (length x) (end_bound order (length x)) i e) →
      Listed order x before after i count r
  listed : (e : Entry) → ListedEntry rising (letters 0 x) (length x) (end_bound order (length x)) i e → r ≡ count + 1 →
      Written before after (3 * count) (3 * r) (numbers (e ∷ [])) → Listed order x before after i count r

-- Room for the entry that position i lists, where it lists one.
pub record RoomAt (order : ℕ) (x list : List ℕ) (count i : ℕ) : Type 0 where
  pub room : (e : Entry) → ListedEntry rising (letters 0 x) (length x) (end_bound order (length x)) i e → 3 * count + 3 ≤ length list

-- What visiting position i asks for: joining, and that room.
pub record VisitReady (order : ℕ) (x buf list : List ℕ) (count i : ℕ) : Type 0 where
  pub join : JoinReady 0 x buf i
  pub fits : RoomAt order x list count i

-- Position i has been visited.
pub record Visited (order : ℕ) (x before after list list' : List ℕ) (i count r : ℕ) : Type 0 where
  pub rows : RowsOf 0 x after i
  pub size : length after ≡ length before
  pub entry : Listed order x list list' i count r

-- Room, from entry `from` on, for what the positions from i on list, whatever i is.
pub record RoomFrom (order : ℕ) (x list : List ℕ) (from : ℕ) : Type 0 where
  pub room : (i : ℕ) (rs : List Entry) → ListsDown rising (letters 0 x) (length x) (end_bound order (length x)) i rs → 3 * (from + length rs) ≤ length list

-- What a pass asks for: a buffer of the text's length for the array, and room for what it lists.
pub record PassReady (order : ℕ) (x buf list : List ℕ) (from : ℕ) : Type 0 where
  pub size : length buf ≡ length x
  pub small : length x ≤ max_length
  pub entries_fit : RoomFrom order x list from

-- One order is done: its array stands in the buffer, and its runs in the list from entry `from` on.
pub record OrderDone {O : Letters {0, 0} ℕ} (D : Decided O) (order : ℕ) (x after list list' : List ℕ) (from count : ℕ) : Type 0 where
  pub array : after ≡ array_of D x
  pub entries : List Entry
  pub lists : ListsDown O (letters 0 x) (length x) (end_bound order (length x)) 0 entries
  pub counted : count ≡ from + length entries
  pub content : Written list list' (3 * from) (3 * count) (numbers entries)

-- What both orders ask for.
pub record FindReady (x work list : List ℕ) : Type 0 where
  pub sized : Sized (length x)
  pub list_room : run_list_length (length x) ≤ length list
  pub work_room : work_length (length x) ≤ length work

-- Both orders are done, the runs are sorted, and the answer has their number.
pub record RunsFound (x before after list list' : List ℕ) (answer : Answer) : Type 0 where
  pub counted : answer ≡ accepted_with (length (run_list x))
  pub entries : list' ≡ written (run_numbers x) list
  pub arrays : after ≡ written (both_arrays x) before
