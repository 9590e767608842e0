-- What each call answers: the checks from the top row down, and then the count.
-- Assumes nothing.
use Rattle.std.specs.Prelude.{List, ℕ, length}
use Rattle.std.specs.declared.cmp.Ordering.{Ordering}
use Rattle.std.specs.declared.cmp.Ordering.TheVariants.{Less, Equal, Greater}
use Rattle.words.specs.Decided.{decided_rising}
use Rattle.words.specs.Compute.InfiniteOrder.{compare_infinite}
use Rattle.words.specs.Compute.Lyndon.{lyndonb}
use Rattle.answer.specs.declared.Answer.{Answer}
use Rattle.answer.specs.Answers.{accepted_with}
use Rattle.answer.specs.Limits.{prefix_count}
use Rattle.checks.specs.Checks.{two_texts_checked, lyndon_word_checked}
use Rattle.letters.specs.Compared.{comparison_of}

-- The count of an answer (document 02, E5: "The call says below, same or above, as count 0, 1 or 2").
abbrev pub count_of : Ordering → ℕ
count_of Less = 0
count_of Equal = 1
count_of Greater = 2

-- The call that compares two texts in infinite order (document 02, E5), rising.
abbrev pub compare_answer : List ℕ → List ℕ → Answer
compare_answer u v = two_texts_checked (length u) (length v) (accepted_with (count_of (comparison_of (compare_infinite decided_rising 0 u v))))

-- The call that sorts the prefixes of a Lyndon word (document 02, E5), rising, in a buffer of `given` places: 1, 2, 4, then 17 where the text is no
-- Lyndon word; the count is one fewer than letters.
abbrev pub prefix_permutation_answer : List ℕ → ℕ → Answer
prefix_permutation_answer x given = lyndon_word_checked (length x) given (lyndonb decided_rising x) (accepted_with (prefix_count (length x)))
