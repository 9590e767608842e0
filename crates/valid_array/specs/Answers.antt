-- The answers of the check of an array: document 01's refusals 1, 2, 6, 7 and 8, in the order of its table.
-- Assumes nothing.
use Rattle.std.specs.Prelude.{List, ℕ, length}
use Rattle.words.specs.Compute.ValidArray.{Verdict, fits, fault, check_array}
use Rattle.answer.specs.declared.Answer.{Answer}
use Rattle.answer.specs.Answers.{accepted_with, refused_for}
use Rattle.valid_array.specs.Faults.{reason_for}
use Rattle.answer.specs.Limits.{max_length}
use Rattle.checks.specs.Checks.{length_checked}

-- Refusals 6, 7 and 8: the answer to a verdict on an array of n entries.
abbrev pub verdict_answer : ℕ → Verdict → Answer
verdict_answer n fits = accepted_with n
verdict_answer n (fault f i) = refused_for (reason_for f) i

-- The answer to an array whose length was checked: every call that takes an array gives it, so they refuse alike.
abbrev pub array_checked : List ℕ → Answer
array_checked a = verdict_answer (length a) (check_array a)

-- The answer of `check`: 1 and 2, then 6, 7 and 8.
abbrev pub check_answer : List ℕ → Answer
check_answer a = length_checked max_length (length a) (array_checked a)
