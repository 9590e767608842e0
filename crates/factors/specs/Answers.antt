-- What each call writes and answers: the checks from the top row down, and then the count, of the factor list also the comparisons.
-- Assumes nothing.
use Rattle.std.specs.Prelude.{List, ℕ, length}
use Rattle.words.specs.Decided.{decided_rising, decided_order}
use Rattle.words.specs.Compute.Factorization.{factorization_of}
use Rattle.words.specs.Compute.SuffixTable.{suffix_table_of}
use Rattle.answer.specs.declared.Answer.{Answer}
use Rattle.answer.specs.Answers.{accepted_with, accepted_after}
use Rattle.checks.specs.Checks.{text_checked, ranked_text_checked}
use Rattle.letters.specs.Ranks.{direction_of, row_in}
use Rattle.letters.specs.Default.{default_row}
use Rattle.factors.specs.Duval.{duval}

-- The factor list of x in the default order (document 02, E12): that of its row of ranks, rising.
abbrev pub default_factors : List ℕ → List ℕ
default_factors x = factorization_of decided_rising (default_row x)

-- How many letter comparisons Duval's scan makes in the default order (document 02, E7 and E12): those of the row of ranks.
abbrev pub default_comparisons : List ℕ → ℕ
default_comparisons x = (duval decided_rising 0 (default_row x)).comparisons

-- The Lyndon suffix table of x in the default order (document 02, E12).
abbrev pub default_suffix_table : List ℕ → List ℕ
default_suffix_table x = suffix_table_of decided_rising (default_row x)

-- The call that lists the factors, in a buffer of `given` places: the count is the number of factors, the comparisons are those of Duval's
-- scan (document 02, E7).
abbrev pub factorization_answer : List ℕ → ℕ → Answer
factorization_answer x given = text_checked (length x) given (accepted_after (length (default_factors x)) (default_comparisons x))

-- The call that writes the Lyndon suffix table, in a buffer of `given` places: the count is the number of letters.
abbrev pub suffix_table_answer : List ℕ → ℕ → Answer
suffix_table_answer x given = text_checked (length x) given (accepted_with (length x))

-- The factor list of x in an order with a rank table (document 02, E1): in order 2 that of the row of ranks, rising.
abbrev pub factors_in : ℕ → List ℕ → List ℕ → List ℕ
factors_in order table x = factorization_of (decided_order (direction_of order)) (row_in order table x)

-- How many letter comparisons Duval's scan of x makes in an order with a rank table (document 02, E7): in order 2 those of the row of ranks.
abbrev pub scan_comparisons : ℕ → List ℕ → List ℕ → ℕ
scan_comparisons order table x = (duval (decided_order (direction_of order)) 0 (row_in order table x)).comparisons

-- The Lyndon suffix table of x in an order with a rank table (document 02, E1).
abbrev pub suffix_table_in : ℕ → List ℕ → List ℕ → List ℕ
suffix_table_in order table x = suffix_table_of (decided_order (direction_of order)) (row_in order table x)

-- The call that lists the factors in an order with a rank table (document 02, E1): 3 and 16 are tested before 4; the count is the number of factors,
-- the comparisons are those of Duval's scan.
abbrev pub factorization_ranked_answer : ℕ → List ℕ → List ℕ → ℕ → Answer
factorization_ranked_answer order table x given =
    ranked_text_checked (length x) order (length table) given (accepted_after (length (factors_in order table x)) (scan_comparisons order table x))

-- The call that writes the Lyndon suffix table in such an order (document 02, E1): the count is the number of letters.
abbrev pub suffix_table_ranked_answer : ℕ → List ℕ → List ℕ → ℕ → Answer
suffix_table_ranked_answer order table x given = ranked_text_checked (length x) order (length table) given (accepted_with (length x))
