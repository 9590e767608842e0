-- What a group gets does not depend on what the other calls, and its tables are those that it wrote last (document 02, E9).
-- Assumes nothing.
use Rattle.std.specs.Prelude.{◌≡◌, true, List, ℕ}
use Rattle.std.proofs.Common.{sym, ap, subst, ◌∙◌}
use Rattle.answer.specs.declared.Reason.TheVariants.{UnwrittenTable}
use Rattle.table_store.specs.Store.{own_name, group_exists, table_exists, new_store, Lookup, missing, lookup}
use Rattle.table_store.specs.Series.{Call, calls_of, results_of, store_at_end, last_written, SamePart}
use Rattle.table_store.specs.StoreLaws.{new_whole}
use Rattle.table_store.specs.SeriesLaws.{same_all, same_then, same_back, as_alone, series_looked}
use Rattle.table_store.specs.Theorems.{new_unwritten}

-- From a series by both groups, begun on a new store, a group gets what it gets from its own calls alone, and its part of the store is the same at
-- the end.
pub alone : (group : ℕ) → group_exists group ≡ true → (series : List Call) →
    (results_of group new_store series ≡ results_of group new_store (calls_of group series)) ×
    SamePart group (store_at_end new_store series) (store_at_end new_store (calls_of group series))
alone group exists series = as_alone group exists series new_store new_store new_whole new_whole (same_all group new_store)

-- Two series by both groups, each begun on a new store. If the calls of one group are the same in the same order, with the same arguments and
-- lent contents, then that group gets the same answers, counts, comparisons, buffer contents and table bytes from both, and its part of the
-- store is the same at the end, whatever the other group calls between them.
pub isolation : (group : ℕ) → group_exists group ≡ true → (p q : List Call) → calls_of group p ≡ calls_of group q →
    (results_of group new_store p ≡ results_of group new_store q) × SamePart group (store_at_end new_store p) (store_at_end new_store q)
isolation group exists p q same =
    let in_p = alone group exists p in
    let in_q = alone group exists q in (
      in_p.0 ∙ ap (results_of group new_store) same ∙ sym in_q.0,
      same_then in_p.1 (same_back (subst (λ (own : List Call). SamePart group (store_at_end new_store q) (store_at_end new_store own)) (sym same) in_q.1)),
    )

-- After a series begun on a new store, a group's own table is that of the last write of it that was accepted; before the first one it is not
-- written: refusal 22.
pub last_written_lem : (group number : ℕ) → table_exists (own_name group number) ≡ true → (series : List Call) →
    lookup (store_at_end new_store series) (own_name group number) ≡ last_written group number (missing UnwrittenTable) series
last_written_lem group number exists series =
    series_looked group number exists series new_store new_whole ∙
    ap (λ (l : Lookup). last_written group number l series) (new_unwritten group number exists)
