-- What the calls on a store answer and leave: in lent buffers, and in the store.
-- Assumes nothing.
use Rattle.std.specs.Prelude.{List, ℕ, length, Result, Ok, Err}
use Rattle.answer.specs.declared.Accepted.{Accepted}
use Rattle.answer.specs.declared.Refused.{Refused}
use Rattle.answer.specs.declared.Answer.{Answer}
use Rattle.answer.specs.Answers.{accepted_with, refused_by}
use Rattle.answer.specs.AfterCall.{content_after}
use Rattle.answer.specs.Limits.{ranked_order, table_length}
use Rattle.checks.specs.Checks.{table_write_checked, output_checked}
use Rattle.array.specs.Calls.{array_ranked_answer, runs_ranked_answer}
use Rattle.array.specs.RankTheorems.{array_ranked_after, list_ranked_after, work_ranked_after}
use Rattle.factors.specs.Answers.{factorization_ranked_answer, suffix_table_ranked_answer}
use Rattle.factors.specs.Theorems.{factors_ranked_after, suffix_table_ranked_after}
use Rattle.left_forest.specs.Answers.{left_forest_ranked_answer}
use Rattle.left_forest.specs.Theorems.{left_first_ranked_after, left_past_ranked_after}
use Rattle.table_store.specs.declared.store.TableStore.{TableStore}
use Rattle.table_store.specs.Store.{own_name, table_exists, with_table, Lookup}

-- A write: refusal 21, then 16; the count is 256.
abbrev pub write_answer : ℕ → ℕ → ℕ → Answer
write_answer group number entries =
    table_write_checked (table_exists (own_name group number)) entries (accepted_with table_length)

-- The store after an outcome: the new one where the write was accepted, else as before.
abbrev pub store_in : Result Accepted Refused → TableStore → TableStore → TableStore
store_in (Ok accepted) new before = new
store_in (Err refusal) new before = before

-- The store after a write.
abbrev pub store_after : TableStore → ℕ → ℕ → List ℕ → TableStore
store_after store group number table = store_in (write_answer group number (length table)).outcome (with_table store group number table) store

-- The answer of a call that uses a table: the refusal, or that by the table found.
abbrev pub answer_by : Lookup → (List ℕ → Answer) → Answer
answer_by (Ok table) answer = answer table
answer_by (Err refusal) answer = refused_by refusal

-- And what a buffer holds after it: what it held before, or what the call by the table found leaves.
abbrev pub content_by : Lookup → (List ℕ → List ℕ) → List ℕ → List ℕ
content_by (Ok table) content before = content table
content_by (Err refusal) content before = before

-- A table copied into a buffer of `given` places: refusal 4; the count is 256.
abbrev pub copy_answer : ℕ → Answer
copy_answer given = output_checked table_length given (accepted_with table_length)

-- A table read back: refusals 21, 22 and 4.
abbrev pub read_answer : Lookup → ℕ → Answer
read_answer looked given = answer_by looked (λ table. copy_answer given)

abbrev pub read_after : Lookup → List ℕ → List ℕ
read_after looked out = content_by looked (λ table. content_after (copy_answer (length out)) table out) out

-- The uses: each is the ranked call (document 02, E1) in order 2 by the table found.

-- The Lyndon array.
abbrev pub array_stored_answer : Lookup → List ℕ → ℕ → Answer
array_stored_answer looked x given = answer_by looked (λ table. array_ranked_answer (length x) ranked_order (length table) given)

abbrev pub array_stored_after : Lookup → List ℕ → List ℕ → List ℕ
array_stored_after looked x out = content_by looked (λ table. array_ranked_after ranked_order table x out) out

-- The factor list.
abbrev pub factorization_stored_answer : Lookup → List ℕ → ℕ → Answer
factorization_stored_answer looked x given = answer_by looked (λ table. factorization_ranked_answer ranked_order table x given)

abbrev pub factors_stored_after : Lookup → List ℕ → List ℕ → List ℕ
factors_stored_after looked x out = content_by looked (λ table. factors_ranked_after ranked_order table x out) out

-- The Lyndon suffix table.
abbrev pub suffix_table_stored_answer : Lookup → List ℕ → ℕ → Answer
suffix_table_stored_answer looked x given = answer_by looked (λ table. suffix_table_ranked_answer ranked_order table x given)

abbrev pub suffix_table_stored_after : Lookup → List ℕ → List ℕ → List ℕ
suffix_table_stored_after looked x out = content_by looked (λ table. suffix_table_ranked_after ranked_order table x out) out

-- The left forest, FIRST and PAST.
abbrev pub left_forest_stored_answer : Lookup → List ℕ → ℕ → ℕ → Answer
left_forest_stored_answer looked x in_first in_past = answer_by looked (λ table. left_forest_ranked_answer ranked_order table x in_first in_past)

abbrev pub left_first_stored_after : Lookup → List ℕ → List ℕ → List ℕ → List ℕ
left_first_stored_after looked x first past = content_by looked (λ table. left_first_ranked_after ranked_order table x first past) first

abbrev pub left_past_stored_after : Lookup → List ℕ → List ℕ → List ℕ → List ℕ
left_past_stored_after looked x first past = content_by looked (λ table. left_past_ranked_after ranked_order table x first past) past

-- The runs, with the lengths of the work buffer and of the list.
abbrev pub runs_stored_answer : Lookup → List ℕ → ℕ → ℕ → Answer
runs_stored_answer looked x work list = answer_by looked (λ table. runs_ranked_answer table x work list)

abbrev pub list_stored_after : Lookup → List ℕ → List ℕ → List ℕ → List ℕ
list_stored_after looked x work list = content_by looked (λ table. list_ranked_after table x work list) list

abbrev pub work_stored_after : Lookup → List ℕ → List ℕ → List ℕ → List ℕ
work_stored_after looked x work list = content_by looked (λ table. work_ranked_after table x work list) work
