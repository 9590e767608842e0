-- What the contracts of the calls on a store say (document 02, E9).
-- Assumes nothing.
use Rattle.std.specs.Prelude.{◌≡◌, refl, Bool, true, false, not, cond, List, [], ℕ, ◌<◌, ◌≤◌, eqb, length, get_or, take, drop, Ok, Err}
use Rattle.std.proofs.Common.{sym, ap, ap₂, ◌∙◌, arith, length-drop, length-take-le}
use Rattle.std.proofs.lemmas.List.{get_or-replicate}
use Rattle.answer.specs.declared.Reason.{Reason}
use Rattle.answer.specs.declared.Reason.TheVariants.{UnknownTable, UnwrittenTable}
use Rattle.answer.specs.declared.Refused.{Refused}
use Rattle.answer.specs.declared.Answer.{Answer}
use Rattle.answer.specs.Answers.{accepted_with, accepted_after, refused_for}
use Rattle.answer.specs.AfterCall.{content_after}
use Rattle.answer.specs.AfterLaws.{written_first, written_rest}
use Rattle.answer.specs.Limits.{ranked_order, table_length}
use Rattle.checks.specs.Checks.{text_checked, forest_checked, runs_checked}
use Rattle.checks.specs.CheckLaws.{output_passes, ranked_text_as, ranked_forest_as, ranked_runs_as}
use Rattle.letters.specs.Ranks.{own_numbers, rank_row}
use Rattle.letters.specs.RankLaws.{own_numbers_length, own_numbers_entry}
use Rattle.letters.specs.BuiltIn.{folded_numbers}
use Rattle.letters.specs.BuiltInLaws.{built_in_length}
use Rattle.letters.specs.Default.{default_table}
use Rattle.array.specs.Calls.{array_ranked_answer, run_list, runs_answer}
use Rattle.array.specs.Theorems.{list_after, work_after}
use Rattle.array.specs.RankTheorems.{array_ranked_after, array_by_own_rank, runs_by_own_rank}
use Rattle.factors.specs.Answers.{factors_in, scan_comparisons, factorization_answer, factorization_ranked_answer, suffix_table_answer, suffix_table_ranked_answer}
use Rattle.factors.specs.Theorems.{starts_after, factors_ranked_after, table_after, suffix_table_ranked_after, factorization_default, suffix_table_default}
use Rattle.factors.specs.RankTheorems.{factors_by_own_rank, suffix_table_by_own_rank}
use Rattle.left_forest.specs.Answers.{left_forest_answer, left_forest_ranked_answer}
use Rattle.left_forest.specs.Theorems.{left_first_after, left_past_after, left_first_ranked_after, left_past_ranked_after, left_forest_default}
use Rattle.left_forest.specs.RankTheorems.{left_forest_by_own_rank}
use Rattle.table_store.specs.declared.store.TableStore.{TableStore}
use Rattle.table_store.specs.declared.store.TableName.{TableName}
use Rattle.table_store.specs.Store.{own_name, built_in_name, group_exists, table_exists, table_place, table_start, new_store, written_flag, is_usable, own_table}
use Rattle.table_store.specs.Store.{table_at, Lookup, missing, found, lookup_in, lookup}
use Rattle.table_store.specs.Calls.{write_answer, store_after, answer_by, content_by, copy_answer, read_answer, read_after, array_stored_answer, array_stored_after}
use Rattle.table_store.specs.Calls.{factorization_stored_answer, factors_stored_after, suffix_table_stored_answer, suffix_table_stored_after}
use Rattle.table_store.specs.Calls.{left_forest_stored_answer, left_first_stored_after, left_past_stored_after, runs_stored_answer, list_stored_after, work_stored_after}
use Rattle.table_store.specs.StoreLaws.{Whole, Existing, own_table_lem, no_lookup, found_by, own_lookup, after_answer, write_accepted, after_table, after_others}

-- No call finds a table of a group that does not exist, built in or own: refusal 21.
pub no_such_group : (store : TableStore) (name : TableName) → group_exists name.group ≡ false → lookup store name ≡ missing UnknownTable
no_such_group store name e = no_lookup store name (rw e)

-- A built-in table is the same in every store.
pub built_in_kept : (a b : TableStore) (group number : ℕ) → lookup a (built_in_name group number) ≡ lookup b (built_in_name group number)
built_in_kept a b group number = refl

-- Built-in table 0 gives each byte its own number, built-in table 1 folds the cases.
pub built_in_zero : (store : TableStore) (group : ℕ) → group_exists group ≡ true → lookup store (built_in_name group 0) ≡ found own_numbers
built_in_zero store group exists = rw exists

pub built_in_one : (store : TableStore) (group : ℕ) → group_exists group ≡ true → lookup store (built_in_name group 1) ≡ found folded_numbers
built_in_one store group exists = rw exists

-- In a new store no own table is written: refusal 22.
pub new_unwritten : (group number : ℕ) → table_exists (own_name group number) ≡ true → lookup new_store (own_name group number) ≡ missing UnwrittenTable
new_unwritten group number exists =
    let own = own_table_lem group number exists in
    own_lookup new_store group number exists ∙
    ap (λ (flag : ℕ). found_by flag (own_table new_store group number)) (get_or-replicate 6 (table_place group number) 0 0 (omega (arith, own)))

-- A table of 256 entries is accepted for an own table that exists, and is found afterwards.
pub written_found : (store : TableStore) → Whole store → (group number : ℕ) (table : List ℕ) → table_exists (own_name group number) ≡ true →
    length table ≡ table_length →
    (write_answer group number (length table) ≡ accepted_with table_length) × (lookup (store_after store group number table) (own_name group number) ≡ found table)
written_found store whole group number table exists fits =
    let new = after_table store whole group number table exists fits in (
      write_accepted group number table exists fits,
      own_lookup (store_after store group number table) group number exists ∙ ap₂ found_by new.1 new.0,
    )

-- A write, also one that is refused, keeps the bytes and the flag of every own table but the one that it names.
pub others_kept : (store : TableStore) → Whole store → (g k : ℕ) (table : List ℕ) (h l : ℕ) → table_exists (own_name h l) ≡ true → ¬ ((g ≡ h) × (k ≡ l)) →
    (own_table (store_after store g k table) h l ≡ own_table store h l) × (written_flag (store_after store g k table) h l ≡ written_flag store h l)
others_kept store whole g k table h l exists apart = after_others store whole g k table h l (own_table_lem h l exists) apart

-- A write that is refused leaves the store as it was.
pub write_refused : (store : TableStore) (group number : ℕ) (table : List ℕ) (reason : Reason) (position : ℕ) →
    write_answer group number (length table) ≡ refused_for reason position → store_after store group number table ≡ store
write_refused store group number table reason position e = after_answer group number table e store

-- The length of the table that is found; 256 where none is.
abbrev length_in : Lookup → ℕ
length_in (Ok table) = length table
length_in (Err refusal) = table_length

own_length : (store : TableStore) → Whole store → (group number : ℕ) → Existing group number → length (own_table store group number) ≡ table_length
own_length store whole group number own =
    let start = table_start (table_place group number) in
    length-take-le table_length (drop start store.tables) (omega (arith, whole, own, length-drop start store.tables))

-- Every table that is found has 256 entries.
pub found_whole : (store : TableStore) → Whole store → (name : TableName) {table : List ℕ} →
    lookup store name ≡ found table → length table ≡ table_length
found_whole store whole name e = sym (ap length_in e) ∙ go name.builtin (table_exists name) refl refl
  where
    written : (t : Bool) (table : List ℕ) → length table ≡ table_length → length_in (cond t (found table) (missing UnwrittenTable)) ≡ table_length
    written true table fits = fits
    written false table fits = refl

    go : (b t : Bool) → name.builtin ≡ b → table_exists name ≡ t → length_in (lookup store name) ≡ table_length
    go b false e z = ap length_in (no_lookup store name z)
    go true true e z = rw (z, e) (built_in_length name.number)
    go false true e z =
        let there : table_exists (own_name name.group name.number) ≡ true = rw e at z in
        rw e (
        ap length_in (own_lookup store name.group name.number there) ∙
        written (not (eqb (written_flag store name.group name.number) 0)) (own_table store name.group name.number)
        (own_length store whole name.group name.number (own_table_lem name.group name.number there))
        )

-- The position with which a lookup is refused; 0 where it finds a table.
abbrev position_in : Lookup → ℕ
position_in (Ok table) = 0
position_in (Err refusal) = refusal.position

-- A lookup that is refused is refused for its reason, with position 0.
pub lookup_refused : (store : TableStore) (name : TableName) {refusal : Refused} → lookup store name ≡ Err refusal →
    (lookup store name ≡ missing refusal.reason) × (refusal.position ≡ 0)
lookup_refused store name {refusal} e = (e ∙ ap (λ (p : ℕ). Err (record { reason = refusal.reason; position = p })) position, position)
  where
    go : (exists usable : Bool) (table : List ℕ) → position_in (lookup_in exists usable table) ≡ 0
    go true true table = refl
    go true false table = refl
    go false usable table = refl

    position : refusal.position ≡ 0
    position = sym (ap position_in e) ∙ go (table_exists name) (is_usable store name) (table_at store name)

-- Where no table is found, a call is refused for the reason found, with position 0, and its buffers hold what they held before.
module _ {looked : Lookup} {reason : Reason} (e : looked ≡ missing reason) where
  pub missing_refused : (answer : List ℕ → Answer) → answer_by looked answer ≡ refused_for reason 0
  missing_refused answer = ap (λ (l : Lookup). answer_by l answer) e

  pub missing_kept : (content : List ℕ → List ℕ) (before : List ℕ) → content_by looked content before ≡ before
  missing_kept content before = ap (λ (l : Lookup). content_by l content before) e

-- Where a table is found, they are those by that table: of the five uses, those of the ranked call in order 2.
module _ {looked : Lookup} {table : List ℕ} (e : looked ≡ found table) where
  pub found_answered : (answer : List ℕ → Answer) → answer_by looked answer ≡ answer table
  found_answered answer = ap (λ (l : Lookup). answer_by l answer) e

  pub found_left : (content : List ℕ → List ℕ) (before : List ℕ) → content_by looked content before ≡ content table
  found_left content before = ap (λ (l : Lookup). content_by l content before) e

  -- A table that is found and read back stands in the first 256 places of a buffer that is long enough; the others hold what they held before.
  pub read_as : length table ≡ table_length → (out : List ℕ) → table_length ≤ length out →
      (read_answer looked (length out) ≡ accepted_with table_length) × (take table_length (read_after looked out) ≡ table) ×
      (drop table_length (read_after looked out) ≡ drop table_length out)
  read_as fits out room =
      let accepted : copy_answer (length out) ≡ accepted_with table_length = output_passes (accepted_with table_length) table_length (length out) room in
      let content : read_after looked out ≡ content_after (copy_answer (length out)) table out = ap (λ (l : Lookup). read_after l out) e in (
        ap (λ (l : Lookup). read_answer l (length out)) e ∙ accepted,
        ap (take table_length) content ∙ written_first (copy_answer (length out)) table_length table_length table out accepted fits,
        ap (drop table_length) content ∙ written_rest (copy_answer (length out)) table_length table_length table out accepted fits,
      )

-- A call by a table that is found makes the checks of a call with no order and no table: it is never refused for either (refusals 3 and 16).
module _ (store : TableStore) (whole : Whole store) (name : TableName) (table : List ℕ)
    (e : lookup store name ≡ found table) (x : List ℕ) where
  fits : length table ≡ table_length
  fits = found_whole store whole name e

  pub array_stored_checks : (given : ℕ) →
      array_stored_answer (lookup store name) x given ≡ text_checked (length x) given (accepted_with (length x))
  array_stored_checks given =
      ap (λ (l : Lookup). array_stored_answer l x given) e ∙ ranked_text_as (length x) _ ranked_order (length table) (omega arith) (λ t. fits) given

  pub factorization_stored_checks : (given : ℕ) →
      factorization_stored_answer (lookup store name) x given ≡
      text_checked (length x) given (accepted_after (length (factors_in ranked_order table x)) (scan_comparisons ranked_order table x))
  factorization_stored_checks given =
      ap (λ (l : Lookup). factorization_stored_answer l x given) e ∙ ranked_text_as (length x) _ ranked_order (length table) (omega arith) (λ t. fits) given

  pub suffix_table_stored_checks : (given : ℕ) →
      suffix_table_stored_answer (lookup store name) x given ≡ text_checked (length x) given (accepted_with (length x))
  suffix_table_stored_checks given =
      ap (λ (l : Lookup). suffix_table_stored_answer l x given) e ∙ ranked_text_as (length x) _ ranked_order (length table) (omega arith) (λ t. fits) given

  pub left_forest_stored_checks : (first past : ℕ) →
      left_forest_stored_answer (lookup store name) x first past ≡ forest_checked (length x) first past (accepted_with (length x))
  left_forest_stored_checks first past =
      ap (λ (l : Lookup). left_forest_stored_answer l x first past) e ∙
      ranked_forest_as (length x) _ ranked_order (length table) (omega arith) (λ t. fits) first past

  pub runs_stored_checks : (work list : ℕ) →
      runs_stored_answer (lookup store name) x work list ≡
      runs_checked (length x) list work (accepted_with (length (run_list (rank_row table x))))
  runs_stored_checks work list =
      ap (λ (l : Lookup). runs_stored_answer l x work list) e ∙ ranked_runs_as (length x) _ (length table) list work fits

-- By built-in table 0, answers and buffers for a text of bytes are those in order 0, and the runs those of `runs`.
module _ (store : TableStore) (group : ℕ) (exists : group_exists group ≡ true) (x : List ℕ) (bytes : (i : ℕ) → i < length x → get_or x i 0 < table_length) where
  is_found : lookup store (built_in_name group 0) ≡ found own_numbers
  is_found = built_in_zero store group exists

  pub array_by_built_in_zero : (out : List ℕ) →
      (array_stored_answer (lookup store (built_in_name group 0)) x (length out) ≡ array_ranked_answer (length x) 0 0 (length out)) ×
      (array_stored_after (lookup store (built_in_name group 0)) x out ≡ array_ranked_after 0 [] x out)
  array_by_built_in_zero out =
      let own = array_by_own_rank own_numbers own_numbers_length [] x out own_numbers_entry bytes in
      (found_answered is_found _ ∙ own.0, found_left is_found _ out ∙ own.1)

  pub factorization_by_built_in_zero : (out : List ℕ) →
      (factorization_stored_answer (lookup store (built_in_name group 0)) x (length out) ≡ factorization_ranked_answer 0 [] x (length out)) ×
      (factors_stored_after (lookup store (built_in_name group 0)) x out ≡ factors_ranked_after 0 [] x out)
  factorization_by_built_in_zero out =
      let own = factors_by_own_rank own_numbers own_numbers_length [] x out own_numbers_entry bytes in
      (found_answered is_found _ ∙ own.0, found_left is_found _ out ∙ own.1)

  pub suffix_table_by_built_in_zero : (out : List ℕ) →
      (suffix_table_stored_answer (lookup store (built_in_name group 0)) x (length out) ≡ suffix_table_ranked_answer 0 [] x (length out)) ×
      (suffix_table_stored_after (lookup store (built_in_name group 0)) x out ≡ suffix_table_ranked_after 0 [] x out)
  suffix_table_by_built_in_zero out =
      let own = suffix_table_by_own_rank own_numbers own_numbers_length [] x out own_numbers_entry bytes in
      (found_answered is_found _ ∙ own.0, found_left is_found _ out ∙ own.1)

  pub left_forest_by_built_in_zero : (first past : List ℕ) →
      (left_forest_stored_answer (lookup store (built_in_name group 0)) x (length first) (length past) ≡ left_forest_ranked_answer 0 [] x (length first) (length past)) ×
      (left_first_stored_after (lookup store (built_in_name group 0)) x first past ≡ left_first_ranked_after 0 [] x first past) ×
      (left_past_stored_after (lookup store (built_in_name group 0)) x first past ≡ left_past_ranked_after 0 [] x first past)
  left_forest_by_built_in_zero first past =
      let own = left_forest_by_own_rank own_numbers own_numbers_length [] x first past own_numbers_entry bytes in
      (found_answered is_found _ ∙ own.0, found_left is_found _ first ∙ own.1, found_left is_found _ past ∙ own.2)

  pub runs_by_built_in_zero : (work list : List ℕ) →
      (runs_stored_answer (lookup store (built_in_name group 0)) x (length work) (length list) ≡ runs_answer x (length work) (length list)) ×
      (list_stored_after (lookup store (built_in_name group 0)) x work list ≡ list_after x work list) ×
      (work_stored_after (lookup store (built_in_name group 0)) x work list ≡ work_after x work list)
  runs_by_built_in_zero work list =
      let own = runs_by_own_rank own_numbers own_numbers_length x work list own_numbers_entry bytes in
      (found_answered is_found _ ∙ own.0, found_left is_found _ list ∙ own.1, found_left is_found _ work ∙ own.2)

-- By built-in table 1, that of the default order (document 02, E12), answers and buffers are those of the calls without an order; the array, which
-- has no such call, is the ranked one in order 2 by that table.
module _ (store : TableStore) (group : ℕ) (exists : group_exists group ≡ true) (x : List ℕ) where
  default_found : lookup store (built_in_name group 1) ≡ found default_table
  default_found = built_in_one store group exists

  pub array_by_built_in_one : (out : List ℕ) →
      (array_stored_answer (lookup store (built_in_name group 1)) x (length out) ≡ array_ranked_answer (length x) 2 (length default_table) (length out)) ×
      (array_stored_after (lookup store (built_in_name group 1)) x out ≡ array_ranked_after 2 default_table x out)
  array_by_built_in_one out = (found_answered default_found _, found_left default_found _ out)

  pub factorization_by_built_in_one : (out : List ℕ) →
      (factorization_stored_answer (lookup store (built_in_name group 1)) x (length out) ≡ factorization_answer x (length out)) ×
      (factors_stored_after (lookup store (built_in_name group 1)) x out ≡ starts_after x out)
  factorization_by_built_in_one out =
      let same = factorization_default x out in (found_answered default_found _ ∙ sym same.0, found_left default_found _ out ∙ sym same.1)

  pub suffix_table_by_built_in_one : (out : List ℕ) →
      (suffix_table_stored_answer (lookup store (built_in_name group 1)) x (length out) ≡ suffix_table_answer x (length out)) ×
      (suffix_table_stored_after (lookup store (built_in_name group 1)) x out ≡ table_after x out)
  suffix_table_by_built_in_one out =
      let same = suffix_table_default x out in (found_answered default_found _ ∙ sym same.0, found_left default_found _ out ∙ sym same.1)

  pub left_forest_by_built_in_one : (first past : List ℕ) →
      (left_forest_stored_answer (lookup store (built_in_name group 1)) x (length first) (length past) ≡ left_forest_answer x (length first) (length past)) ×
      (left_first_stored_after (lookup store (built_in_name group 1)) x first past ≡ left_first_after x first past) ×
      (left_past_stored_after (lookup store (built_in_name group 1)) x first past ≡ left_past_after x first past)
  left_forest_by_built_in_one first past =
      let same = left_forest_default x first past in (
        found_answered default_found _ ∙ sym same.0,
        found_left default_found _ first ∙ sym same.1,
        found_left default_found _ past ∙ sym same.2,
      )
