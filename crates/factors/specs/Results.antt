-- What the work of a call, once its checks have passed, finds in the buffers, returns and leaves there. Letters are numbers, in any order;
-- x is the text, or its row of ranks.
-- Assumes nothing.
use Rattle.std.specs.Prelude.{◌≡◌, List, ℕ, ◌<◌, ◌≤◌, length, get_or}
use Rattle.words.specs.Letters.{Letters}
use Rattle.words.specs.Decided.{Decided}
use Rattle.words.specs.SuffixTable.{LongestTo}
use Rattle.words.specs.Compute.Factorization.{factorization_of}
use Rattle.words.specs.Laws.SpanLyndon.{letters}
use Rattle.words.specs.Laws.LowestSuffix.{Lowest}
use Rattle.answer.specs.declared.Accepted.{Accepted}
use Rattle.answer.specs.Limits.{max_length}
use Rattle.answer.specs.AfterCall.{written}
use Rattle.answer.specs.Content.{Kept, From}
use Rattle.factors.specs.declared.scan.Stretch.{Stretch}
use Rattle.factors.specs.Duval.{duval}
use Rattle.factors.specs.DuvalFactorization.{ScanStopped, StoppedWhile}

-- The starts of the factors of x are written, and counted; the comparisons are those of Duval's scan.
pub record FactorsListed {O : Letters {0, 0} ℕ} (D : Decided O) (x before after : List ℕ) (l : Accepted) : Type 0 where
  pub counted : l.count ≡ length (factorization_of D x)
  pub compared : l.comparisons ≡ (duval D 0 x).comparisons
  pub content : after ≡ written (factorization_of D x) before

-- The first e entries of a buffer are those of the Lyndon suffix table of x; the places past the text are as before.
pub record Tabled (O : Letters {0, 0} ℕ) (x before after : List ℕ) (e : ℕ) : Type 0 where
  pub entry : (t : ℕ) → t < e → LongestTo O x t (get_or after t 0)
  pub others : Kept (From (length x)) before after

-- All its entries are there.
abbrev pub AllTabled : Letters {0, 0} ℕ → List ℕ → List ℕ → List ℕ → Type 0
AllTabled O x before after = Tabled O x before after (length x)

-- A scan may begin at `start`: no suffix before it is smaller, and the entries before it are there.
pub record Startable (O : Letters {0, 0} ℕ) (x out : List ℕ) (start : ℕ) : Type 0 where
  pub lowest : Lowest O (letters 0 x) (length x) start
  pub entry : (t : ℕ) → t < start → LongestTo O x t (get_or out t 0)

-- The scan from `start` has stopped with the stretch s, and the entries up to its end are there.
pub record TableFilled (O : Letters {0, 0} ℕ) (x before after : List ℕ) (start : ℕ) (s : Stretch) : Type 0 where
  pub stopped : ScanStopped O (letters 0 x) (length x) start s
  pub table : Tabled O x before after s.end

-- The factors before `start` are done, and the entries up to the end of the last scan's stretch s are there. While s holds one more copy
-- of its period, it is the stretch of a scan from `start`.
pub record Covered (O : Letters {0, 0} ℕ) (x out : List ℕ) (start : ℕ) (s : Stretch) : Type 0 where
  pub lowest : Lowest O (letters 0 x) (length x) start
  pub reached : start ≤ s.end
  pub inside : s.end ≤ length x
  pub small : s.period ≤ max_length
  pub entry : (t : ℕ) → t < s.end → LongestTo O x t (get_or out t 0)
  pub remains : StoppedWhile O (letters 0 x) (length x) start s
