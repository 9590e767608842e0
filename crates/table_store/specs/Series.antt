-- Series of calls on one store, by both groups (document 02, E9): calls and what they give back as data.
-- Assumes nothing.
use Rattle.std.specs.Prelude.{◌≡◌, cond, ◌&&◌, List, [], ◌∷◌, ℕ, ◌<◌, eqb, length}
use Rattle.answer.specs.declared.Answer.{Answer}
use Rattle.answer.specs.Limits.{table_length}
use Rattle.table_store.specs.declared.store.TableStore.{TableStore}
use Rattle.table_store.specs.declared.store.TableName.{TableName}
use Rattle.table_store.specs.Store.{own_tables, written_flag, own_table, Lookup, found, lookup}
use Rattle.table_store.specs.Calls.{write_answer, store_after, read_answer, read_after, array_stored_answer, array_stored_after}
use Rattle.table_store.specs.Calls.{factorization_stored_answer, factors_stored_after, suffix_table_stored_answer, suffix_table_stored_after}
use Rattle.table_store.specs.Calls.{left_forest_stored_answer, left_first_stored_after, left_past_stored_after, runs_stored_answer, list_stored_after, work_stored_after}

-- A use of a table, with all that it is given: the text, and what each buffer that it may write holds before.
pub data Use : Type 0 where
  read : (out : List ℕ) → Use
  array : (text out : List ℕ) → Use
  factorization : (text out : List ℕ) → Use
  suffix_table : (text out : List ℕ) → Use
  left_forest : (text first past : List ℕ) → Use
  runs : (text work list : List ℕ) → Use

-- A call with all that it is given but the store: a write of a group's own table, or a use of a table.
pub data Call : Type 0 where
  write_table : (group number : ℕ) (table : List ℕ) → Call
  use_table : (name : TableName) (task : Use) → Call

-- The group that calls, by the number that the call gives.
abbrev pub group_of : Call → ℕ
group_of (write_table group number table) = group
group_of (use_table name task) = name.group

-- What a call gives back: its answer, with count and comparisons, and what each buffer that it may write holds afterwards. The store that a
-- write gives back too, the other group's tables in it, is not among these: of that, a group's part is compared at the end of a series (`SamePart`).
pub record Result : Type 0 where
  pub answer : Answer
  pub buffers : List (List ℕ)

abbrev pub result_with : Answer → List (List ℕ) → Result
result_with answer buffers = record { answer = answer; buffers = buffers }

-- What a use gives back, by what the lookup finds: the definitions that the contract of its call names.
abbrev pub result_by : Lookup → Use → Result
result_by looked (read out) = result_with (read_answer looked (length out)) (read_after looked out ∷ [])
result_by looked (array text out) =
    result_with (array_stored_answer looked text (length out)) (array_stored_after looked text out ∷ [])
result_by looked (factorization text out) =
    result_with (factorization_stored_answer looked text (length out)) (factors_stored_after looked text out ∷ [])
result_by looked (suffix_table text out) =
    result_with (suffix_table_stored_answer looked text (length out)) (suffix_table_stored_after looked text out ∷ [])
result_by looked (left_forest text first past) =
    result_with (left_forest_stored_answer looked text (length first) (length past))
    (left_first_stored_after looked text first past ∷ left_past_stored_after looked text first past ∷ [])
result_by looked (runs text work list) =
    result_with (runs_stored_answer looked text (length work) (length list))
    (work_stored_after looked text work list ∷ list_stored_after looked text work list ∷ [])

-- What a call on a store gives back.
abbrev pub result_of : TableStore → Call → Result
result_of store (write_table group number table) = result_with (write_answer group number (length table)) []
result_of store (use_table name task) = result_by (lookup store name) task

-- The store that is handed on: that which a write gives back, and after a use the one that it was given.
abbrev pub store_of : TableStore → Call → TableStore
store_of store (write_table group number table) = store_after store group number table
store_of store (use_table name task) = store

-- The store at the end of a series of calls.
abbrev pub store_at_end : TableStore → List Call → TableStore
store_at_end store [] = store
store_at_end store (call ∷ series) = store_at_end (store_of store call) series

-- What a lookup finds of a group's own table after a series, by what it found before it: the table of the last write that names this group and
-- number and has 256 entries; where there is none, as before.
abbrev pub last_written : ℕ → ℕ → Lookup → List Call → Lookup
last_written group number before [] = before
last_written group number before (write_table g k table ∷ series) =
    let replaces = eqb g group && eqb k number && eqb (length table) table_length in
    last_written group number (cond replaces (found table) before) series
last_written group number before (use_table name task ∷ series) = last_written group number before series

-- The calls of one group in a series. Calls of the other group, and those with a group number that does not exist, are not among them.
abbrev pub calls_of : ℕ → List Call → List Call
calls_of group [] = []
calls_of group (call ∷ series) = cond (eqb (group_of call) group) (call ∷ calls_of group series) (calls_of group series)

-- What one group gets from a series: the results of its calls, in their order, each on the store handed on by the call before it, whoever made that.
abbrev pub results_of : ℕ → TableStore → List Call → List Result
results_of group store [] = []
results_of group store (call ∷ series) =
    let rest = results_of group (store_of store call) series in cond (eqb (group_of call) group) (result_of store call ∷ rest) rest

-- Two stores agree in a group's part: the bytes of its three tables, and the three numbers that tell which of them are written.
pub record SamePart (group : ℕ) (a b : TableStore) : Type 0 where
  pub tables : (number : ℕ) → number < own_tables → own_table a group number ≡ own_table b group number
  pub flags : (number : ℕ) → number < own_tables → written_flag a group number ≡ written_flag b group number
