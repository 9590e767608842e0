-- Laws of series of calls: answer and buffers are a step of one, what a group gets from its calls rests on its own part of the store, no call of
-- another group changes that part, and a table is the one written last.
-- Assumes nothing.
use Rattle.std.specs.Prelude.{◌≡◌, refl, Bool, true, false, cond, ◌&&◌, List, [], ◌∷◌, ℕ, ◌<◌, eqb, length}
use Rattle.std.proofs.Common.{sym, ap, ap₂, subst, ◌∙◌, eqb-true}
use Rattle.std.proofs.Math.Decide.{ℕ_discrete}
use Rattle.std.proofs.lemmas.Bool.{eqb-false}
use Rattle.answer.specs.declared.Answer.{Answer}
use Rattle.answer.specs.Limits.{table_length}
use Rattle.table_store.specs.declared.store.TableStore.{TableStore}
use Rattle.table_store.specs.declared.store.TableName.{TableName}
use Rattle.table_store.specs.Store.{own_tables, own_name, group_exists, table_exists, written_flag, own_table, Lookup, found, lookup}
use Rattle.table_store.specs.Calls.{store_after}
use Rattle.table_store.specs.Series.{Call, write_table, use_table, group_of, Result, result_with, result_by, result_of, store_of, store_at_end}
use Rattle.table_store.specs.Series.{last_written, calls_of, results_of, SamePart}
use Rattle.table_store.specs.StoreLaws.{Whole, group_table, own_table_lem, no_lookup, found_by, own_lookup, WriteCase, replaced, unchanged, write_case}
use Rattle.table_store.specs.StoreLaws.{after_whole, after_table, after_others}

-- Answer and buffers of a call, and both as the step of a series.
pub one_buffer : {a b : Answer} {l m : List ℕ} → a ≡ b → l ≡ m → (a ≡ b) × ((l ≡ m) × (result_with a (l ∷ []) ≡ result_with b (m ∷ [])))
one_buffer p q = (p, (q, ap₂ (λ (r : Answer) (k : List ℕ). result_with r (k ∷ [])) p q))

pub two_buffers : {a b : Answer} {l m : List ℕ} {u v : List ℕ} → a ≡ b → l ≡ m → u ≡ v →
    (a ≡ b) × ((l ≡ m) × ((u ≡ v) × (result_with a (l ∷ u ∷ []) ≡ result_with b (m ∷ v ∷ []))))
two_buffers {b = b} {l} {u = u} p q r =
    (p, (q, (r, ap (λ (t : Answer). result_with t (l ∷ u ∷ [])) p ∙ ap₂ (λ (k j : List ℕ). result_with b (k ∷ j ∷ [])) q r)))

pub same_all : (group : ℕ) (a : TableStore) → SamePart group a a
same_all group a = record { tables = λ k l. refl; flags = λ k l. refl }

pub same_then : {group : ℕ} {a b c : TableStore} → SamePart group a b → SamePart group b c → SamePart group a c
same_then p q = record { tables = λ k l. p.tables k l ∙ q.tables k l; flags = λ k l. p.flags k l ∙ q.flags k l }

pub same_back : {group : ℕ} {a b : TableStore} → SamePart group a b → SamePart group b a
same_back p = record { tables = λ k l. sym (p.tables k l); flags = λ k l. sym (p.flags k l) }

-- A lookup rests on the group's part alone.
lookup_same : (a b : TableStore) (name : TableName) → SamePart name.group a b → lookup a name ≡ lookup b name
lookup_same a b name same = go name.builtin refl
  where
    at : (t : Bool) → table_exists (own_name name.group name.number) ≡ t → lookup a (own_name name.group name.number) ≡ lookup b (own_name name.group name.number)
    at true e =
        let l = (own_table_lem name.group name.number e).low in
        own_lookup a name.group name.number e ∙ ap₂ found_by (same.flags name.number l) (same.tables name.number l) ∙
        sym (own_lookup b name.group name.number e)
    at false e = no_lookup a (own_name name.group name.number) e ∙ sym (no_lookup b (own_name name.group name.number) e)

    go : (builtin : Bool) → name.builtin ≡ builtin → lookup a name ≡ lookup b name
    go true e = rw e refl
    go false e = rw e (at (table_exists (own_name name.group name.number)) refl)

-- So does what a call gives back.
result_same : (a b : TableStore) (call : Call) → SamePart (group_of call) a b → result_of a call ≡ result_of b call
result_same a b (write_table group number table) same = refl
result_same a b (use_table name task) same = ap (λ (l : Lookup). result_by l task) (lookup_same a b name same)

-- Every call keeps the lengths.
step_whole : (store : TableStore) → Whole store → (call : Call) → Whole (store_of store call)
step_whole store whole (write_table group number table) = after_whole store whole group number table
step_whole store whole (use_table name task) = whole

-- A write by a group on two stores that agree in its part leaves two such.
write_same : (group : ℕ) → group_exists group ≡ true → (a b : TableStore) → Whole a → Whole b → SamePart group a b → (number : ℕ) (table : List ℕ) →
    SamePart group (store_after a group number table) (store_after b group number table)
write_same group exists a b whole_a whole_b same number table = go (write_case group number table)
  where
    new_a : TableStore
    new_a = store_after a group number table

    new_b : TableStore
    new_b = store_after b group number table

    Agree : ℕ → Type 0
    Agree k = (own_table new_a group k ≡ own_table new_b group k) × (written_flag new_a group k ≡ written_flag new_b group k)

    at : table_exists (own_name group number) ≡ true → length table ≡ table_length → (k : ℕ) → k < own_tables → Dec (number ≡ k) → Agree k
    at there fits k l (yes z) =
        let in_a = after_table a whole_a group number table there fits in
        let in_b = after_table b whole_b group number table there fits in
        subst Agree z (in_a.0 ∙ sym in_b.0, in_a.1 ∙ sym in_b.1)
    at there fits k l (no z) =
        let other = group_table group k exists l in
        let in_a = after_others a whole_a group number table group k other (λ p. z p.1) in
        let in_b = after_others b whole_b group number table group k other (λ p. z p.1) in
        (in_a.0 ∙ same.tables k l ∙ sym in_b.0, in_a.1 ∙ same.flags k l ∙ sym in_b.1)

    go : WriteCase group number table → SamePart group new_a new_b
    go (replaced there fits) =
        record { tables = λ k l. (at there fits k l (ℕ_discrete number k)).0; flags = λ k l. (at there fits k l (ℕ_discrete number k)).1 }
    go (unchanged e) = subst (λ (s : TableStore). SamePart group s new_b) (sym (e a)) (subst (SamePart group a) (sym (e b)) same)

-- So does every call of the group.
step_same : (call : Call) → group_exists (group_of call) ≡ true → (a b : TableStore) → Whole a → Whole b → SamePart (group_of call) a b →
    SamePart (group_of call) (store_of a call) (store_of b call)
step_same (write_table group number table) exists a b whole_a whole_b same = write_same group exists a b whole_a whole_b same number table
step_same (use_table name task) exists a b whole_a whole_b same = same

module _ (group : ℕ) (exists : group_exists group ≡ true) where
  -- A call of another group leaves the group's part as it was.
  step_other : (a : TableStore) → Whole a → (call : Call) → ¬ (group_of call ≡ group) → SamePart group (store_of a call) a
  step_other a whole (write_table g number table) other =
      record { tables = λ k l. (kept k l).0; flags = λ k l. (kept k l).1 }
    where
      kept : (k : ℕ) → k < own_tables → (own_table (store_after a g number table) group k ≡ own_table a group k) ×
          (written_flag (store_after a g number table) group k ≡ written_flag a group k)
      kept k l = after_others a whole g number table group k (group_table group k exists l) (λ p. other p.0)
  step_other a whole (use_table name task) other = same_all group a

  -- What a group gets from a series that starts with a call, by whether the call is its own.
  results_from : (s : TableStore) (call : Call) (series : List Call) (t : Bool) → eqb (group_of call) group ≡ t →
      results_of group s (call ∷ series) ≡ cond t (result_of s call ∷ results_of group (store_of s call) series) (results_of group (store_of s call) series)
  results_from s call series t e =
      ap (λ (u : Bool). cond u (result_of s call ∷ results_of group (store_of s call) series) (results_of group (store_of s call) series)) e

  abbrev pub AsAlone : TableStore → TableStore → List Call → List Call → Type 0
  AsAlone a b series own = (results_of group a series ≡ results_of group b own) × SamePart group (store_at_end a series) (store_at_end b own)

  -- From a series on one store a group gets what it gets when it alone calls, on a store that agrees in its part; and so do the two at the end.
  pub as_alone : (series : List Call) (a b : TableStore) → Whole a → Whole b → SamePart group a b → AsAlone a b series (calls_of group series)
  as_alone [] a b whole_a whole_b same = (refl, same)
  as_alone (call ∷ series) a b whole_a whole_b same =
      go (eqb (group_of call) group) refl (λ s. as_alone series (store_of a call) s (step_whole a whole_a call))
    where
      go : (t : Bool) → eqb (group_of call) group ≡ t →
          ((s : TableStore) → Whole s → SamePart group (store_of a call) s → AsAlone (store_of a call) s series (calls_of group series)) →
          AsAlone a b (call ∷ series) (cond t (call ∷ calls_of group series) (calls_of group series))
      go true e rest =
          let own : group_of call ≡ group = eqb-true (group_of call) group e in
          let before : SamePart (group_of call) a b = subst (λ (g : ℕ). SamePart g a b) (sym own) same in
          let there : group_exists (group_of call) ≡ true = subst (λ (g : ℕ). group_exists g ≡ true) (sym own) exists in
          let after = rest (store_of b call) (step_whole b whole_b call)
          (subst (λ (g : ℕ). SamePart g (store_of a call) (store_of b call)) own (step_same call there a b whole_a whole_b before)) in (
            results_from a call series true e ∙ ap₂ (λ (r : Result) (l : List Result). r ∷ l) (result_same a b call before) after.0 ∙
                sym (results_from b call (calls_of group series) true e),
            after.1,
          )
      go false e rest =
          let after = rest b whole_b (same_then (step_other a whole_a call (eqb-false (group_of call) group e)) same) in
          (results_from a call series false e ∙ after.0, after.1)

module _ (group number : ℕ) (exists : table_exists (own_name group number) ≡ true) where
  -- What a lookup finds of an own table after a write.
  write_looked : (store : TableStore) → Whole store → (g k : ℕ) (table : List ℕ) →
      lookup (store_after store g k table) (own_name group number) ≡
      cond (eqb g group && eqb k number && eqb (length table) table_length) (found table) (lookup store (own_name group number))
  write_looked store whole g k table = go (eqb g group) (eqb k number) (eqb (length table) table_length) refl refl refl
    where
      new : TableStore
      new = store_after store g k table

      -- Another table is written.
      kept : ¬ ((g ≡ group) × (k ≡ number)) → lookup new (own_name group number) ≡ lookup store (own_name group number)
      kept apart =
          let same = after_others store whole g k table group number (own_table_lem group number exists) apart in
          own_lookup new group number exists ∙ ap₂ found_by same.1 same.0 ∙ sym (own_lookup store group number exists)

      -- The length is not 256.
      refused : ¬ (length table ≡ table_length) → WriteCase g k table → lookup new (own_name group number) ≡ lookup store (own_name group number)
      refused wrong (replaced there fits) = absurd (wrong fits)
      refused wrong (unchanged e) = ap (λ (s : TableStore). lookup s (own_name group number)) (e store)

      go : (t u v : Bool) → eqb g group ≡ t → eqb k number ≡ u → eqb (length table) table_length ≡ v →
          lookup new (own_name group number) ≡ cond (t && u && v) (found table) (lookup store (own_name group number))
      go true true true e f h =
          let after = after_table store whole group number table exists (eqb-true (length table) table_length h) in
          ap₂ (λ (a b : ℕ). lookup (store_after store a b table) (own_name group number)) (eqb-true g group e) (eqb-true k number f) ∙
          own_lookup (store_after store group number table) group number exists ∙ ap₂ found_by after.1 after.0
      go true true false e f h = refused (eqb-false (length table) table_length h) (write_case g k table)
      go true false v e f h = kept (λ p. eqb-false k number f p.1)
      go false u v e f h = kept (λ p. eqb-false g group e p.0)

  -- And after a series.
  pub series_looked : (series : List Call) (store : TableStore) → Whole store →
      lookup (store_at_end store series) (own_name group number) ≡ last_written group number (lookup store (own_name group number)) series
  series_looked [] store whole = refl
  series_looked (write_table g k table ∷ series) store whole =
      series_looked series (store_after store g k table) (after_whole store whole g k table) ∙
      ap (λ (l : Lookup). last_written group number l series) (write_looked store whole g k table)
  series_looked (use_table name task ∷ series) store whole = series_looked series store whole
