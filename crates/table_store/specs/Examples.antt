-- A series of calls by both groups, what each gets, and the tables at its end.
-- Assumes nothing.
use Rattle.std.specs.Prelude.{◌≡◌, refl, List, [], ◌∷◌, ℕ}
use Rattle.answer.specs.declared.Reason.TheVariants.{WrongTable, UnknownTable, UnwrittenTable}
use Rattle.answer.specs.Answers.{accepted_with, refused_for}
use Rattle.letters.specs.Ranks.{own_numbers}
use Rattle.letters.specs.BuiltIn.{folded_numbers}
use Rattle.letters.specs.RankExample.{table, text}
use Rattle.table_store.specs.Store.{own_name, built_in_name, new_store, missing, found, lookup}
use Rattle.table_store.specs.Series.{Call, write_table, use_table, array, result_with, results_of, store_at_end, last_written}

-- A buffer of five places.
abbrev out : List ℕ
out = 9 ∷ 9 ∷ 9 ∷ 9 ∷ 9 ∷ []

-- The array of `TaTAt`. Group 1 uses its table 0 before it has written it, writes it, and uses it before and after group 2 writes a table 0 of
-- its own; then built-in table 1, and built-in table 2, which does not exist. Group 2 uses its table 0 before it has written it and after, and
-- writes a table of one entry. Group 3 does not exist.
abbrev series : List Call
series =
    use_table (own_name 1 0) (array text out) ∷
    write_table 1 0 table ∷
    use_table (own_name 2 0) (array text out) ∷
    use_table (own_name 1 0) (array text out) ∷
    write_table 2 0 own_numbers ∷
    write_table 2 0 (0 ∷ []) ∷
    write_table 3 0 table ∷
    use_table (own_name 2 0) (array text out) ∷
    use_table (own_name 1 0) (array text out) ∷
    use_table (built_in_name 1 1) (array text out) ∷
    use_table (built_in_name 1 2) (array text out) ∷
    use_table (built_in_name 3 0) (array text out) ∷
    []

first_group : results_of 1 new_store series ≡
    result_with (refused_for UnwrittenTable 0) (out ∷ []) ∷
    result_with (accepted_with 256) ([]) ∷
    result_with (accepted_with 5) ((2 ∷ 1 ∷ 2 ∷ 1 ∷ 1 ∷ []) ∷ []) ∷
    result_with (accepted_with 5) ((2 ∷ 1 ∷ 2 ∷ 1 ∷ 1 ∷ []) ∷ []) ∷
    result_with (accepted_with 5) ((1 ∷ 2 ∷ 1 ∷ 2 ∷ 1 ∷ []) ∷ []) ∷
    result_with (refused_for UnknownTable 0) (out ∷ []) ∷
    []
unfolding own_numbers folded_numbers
first_group = refl

second_group : results_of 2 new_store series ≡
    result_with (refused_for UnwrittenTable 0) (out ∷ []) ∷
    result_with (accepted_with 256) ([]) ∷
    result_with (refused_for WrongTable 0) ([]) ∷
    result_with (accepted_with 5) ((2 ∷ 1 ∷ 1 ∷ 2 ∷ 1 ∷ []) ∷ []) ∷
    []
unfolding own_numbers folded_numbers
second_group = refl

third_group : results_of 3 new_store series ≡
    result_with (refused_for UnknownTable 0) ([]) ∷ result_with (refused_for UnknownTable 0) (out ∷ []) ∷ []
unfolding own_numbers folded_numbers
third_group = refl

-- At the end table 0 of group 1 is the one that it wrote, table 0 of group 2 is its first one, of 256 entries, and table 1 of group 2 is not written.
first_at_end : lookup (store_at_end new_store series) (own_name 1 0) ≡ found table
unfolding own_numbers folded_numbers
first_at_end = refl

first_last_written : last_written 1 0 (missing UnwrittenTable) series ≡ found table
unfolding own_numbers folded_numbers
first_last_written = refl

second_at_end : lookup (store_at_end new_store series) (own_name 2 0) ≡ found own_numbers
unfolding own_numbers folded_numbers
second_at_end = refl

second_last_written : last_written 2 0 (missing UnwrittenTable) series ≡ found own_numbers
unfolding own_numbers folded_numbers
second_last_written = refl

second_unwritten : lookup (store_at_end new_store series) (own_name 2 1) ≡ missing UnwrittenTable
unfolding own_numbers folded_numbers
second_unwritten = refl
