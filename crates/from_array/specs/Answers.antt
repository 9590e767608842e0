-- The answers of the calls that take an array alone: the checks of document 01's table, from the top row down.
-- Assumes nothing.
use Rattle.std.specs.Prelude.{List, ℕ, length}
use Rattle.answer.specs.declared.Answer.{Answer}
use Rattle.checks.specs.Checks.{text_checked, forest_checked}
use Rattle.valid_array.specs.Answers.{array_checked}

-- The answer of `reconstruct`, for a text buffer of that length.
abbrev pub reconstruct_answer : List ℕ → ℕ → Answer
reconstruct_answer a text = text_checked (length a) text (array_checked a)

-- The answer of `right_forest`, for buffers FIRST and PAST of those lengths.
abbrev pub right_forest_answer : List ℕ → ℕ → ℕ → Answer
right_forest_answer a first past = forest_checked (length a) first past (array_checked a)
