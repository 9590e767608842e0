-- What the calls answer.
-- Assumes nothing.
use Rattle.std.specs.Prelude.{List, ◌++◌, ℕ, length}
use Rattle.words.specs.Decided.{decided_rising, decided_falling, decided_order}
use Rattle.words.specs.Equality.{decided_number_equality}
use Rattle.words.specs.Runs.{Entry, numbers}
use Rattle.words.specs.Compute.LyndonArray.{array_of}
use Rattle.words.specs.Compute.Runs.{runs_of}
use Rattle.answer.specs.declared.Answer.{Answer}
use Rattle.answer.specs.Answers.{accepted_with}
use Rattle.checks.specs.Checks.{ordered_text_checked, ranked_text_checked, runs_checked, ranked_runs_checked}
use Rattle.letters.specs.Ranks.{rank_row, row_in, direction_of}

-- The Lyndon array of n letters into a buffer of `given` places: checks 1, 2, 3 and 4 of document 01's table; the count is n.
abbrev pub array_answer : ℕ → ℕ → ℕ → Answer
array_answer n order given = ordered_text_checked n order given (accepted_with n)

-- The Lyndon array in order 0, 1 or 2 by a rank table (document 02, E1).
abbrev pub array_in : ℕ → List ℕ → List ℕ → List ℕ
array_in order table x = array_of (decided_order (direction_of order)) (row_in order table x)

-- Its answer, with the length of the table: checks 1, 2, 3, 16 and 4; the count is n.
abbrev pub array_ranked_answer : ℕ → ℕ → ℕ → ℕ → Answer
array_ranked_answer n order entries given = ranked_text_checked n order entries given (accepted_with n)

-- The runs of a text of bytes, by start and then by last position.
abbrev pub run_list : List ℕ → List Entry
run_list x = runs_of decided_number_equality x

-- The numbers that a run list holds.
abbrev pub run_numbers : List ℕ → List ℕ
run_numbers x = numbers (run_list x)

-- What the work buffer holds afterwards: the rising array, then the falling one.
abbrev pub both_arrays : List ℕ → List ℕ
both_arrays x = array_of decided_rising x ++ array_of decided_falling x

-- The runs of a text, with the lengths of the work buffer and of the list: checks 1, 2, 4 (document 02, E4) and 5; the count is the number of runs.
abbrev pub runs_answer : List ℕ → ℕ → ℕ → Answer
runs_answer x work list = runs_checked (length x) list work (accepted_with (length (run_list x)))

-- The same by a rank table: the runs are those of the row of ranks. Checks 1, 2, 16, 4 and 5 (document 02, E1).
abbrev pub runs_ranked_answer : List ℕ → List ℕ → ℕ → ℕ → Answer
runs_ranked_answer table x work list = ranked_runs_checked (length x) (length table) list work (accepted_with (length (run_list (rank_row table x))))
