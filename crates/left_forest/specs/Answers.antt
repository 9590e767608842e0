-- What the calls write and answer: the checks from the top row down, and then the count.
-- Assumes nothing.
use Rattle.std.specs.Prelude.{List, ℕ, length}
use Rattle.words.specs.Decided.{decided_rising, decided_order}
use Rattle.words.specs.Compute.LeftForest.{left_first_of, left_past_of}
use Rattle.answer.specs.declared.Answer.{Answer}
use Rattle.answer.specs.Answers.{accepted_with}
use Rattle.checks.specs.Checks.{forest_checked, ranked_forest_checked}
use Rattle.letters.specs.Ranks.{direction_of, row_in}
use Rattle.letters.specs.Default.{default_row}
use Rattle.factors.specs.Answers.{default_factors, factors_in}

-- FIRST of the left forest in the default order (document 02, E12): that of the row of ranks, rising.
abbrev pub default_left_first : List ℕ → List ℕ
default_left_first x = left_first_of decided_rising (default_row x) (default_factors x)

-- And PAST (document 02, E12).
abbrev pub default_left_past : List ℕ → List ℕ
default_left_past x = left_past_of decided_rising (default_row x) (default_factors x)

-- The call that writes the left forest of x, in buffers of `in_first` and `in_past` places: refused where either is short; the count is the
-- number of letters.
abbrev pub left_forest_answer : List ℕ → ℕ → ℕ → Answer
left_forest_answer x in_first in_past = forest_checked (length x) in_first in_past (accepted_with (length x))

-- FIRST of the left forest in an order with a rank table (document 02, E1): in order 2 that of the row of ranks, rising.
abbrev pub left_first_in : ℕ → List ℕ → List ℕ → List ℕ
left_first_in order table x = left_first_of (decided_order (direction_of order)) (row_in order table x) (factors_in order table x)

-- And PAST (document 02, E1).
abbrev pub left_past_in : ℕ → List ℕ → List ℕ → List ℕ
left_past_in order table x = left_past_of (decided_order (direction_of order)) (row_in order table x) (factors_in order table x)

-- The left forest of x in such an order (document 02, E1): 3 and 16 are tested before 4; the count is the number of letters.
abbrev pub left_forest_ranked_answer : ℕ → List ℕ → List ℕ → ℕ → ℕ → Answer
left_forest_ranked_answer order table x in_first in_past =
    ranked_forest_checked (length x) order (length table) in_first in_past (accepted_with (length x))
