-- A table written over the bytes at its place, with its flag set, is the store after the write.
-- Assumes nothing.
use Rattle.std.specs.Prelude.{◌≡◌, true, List, ℕ, ◌+◌, ◌-◌, ◌*◌, length, set, Option, Some}
use Rattle.std.proofs.Common.{sym, ap, ◌∙◌, arith}
use borrow.Rule.Slice.PartMut.{put_mid}
use Rattle.std.proofs.Math.Seq.{paste}
use Rattle.std.proofs.lemmas.Slice.{put_mid-paste}
use Rattle.answer.specs.Limits.{table_length}
use Rattle.table_store.specs.declared.store.TableStore.{TableStore}
use Rattle.table_store.specs.Store.{own_name, table_place, table_exists, own_place}
use Rattle.table_store.specs.Calls.{store_after}
use Rattle.table_store.specs.StoreLaws.{after_answer, write_accepted}

pub table_replaced : (store : TableStore) (group number place : ℕ) (table new : List ℕ) {found : Option ℕ} → found ≡ own_place (own_name group number) →
    found ≡ Some place → length table ≡ table_length → new ≡ table →
    record { tables = put_mid (place * 256) (place * 256 + 256 - place * 256) store.tables new; written = set store.written place 1 } ≡
    store_after store group number table
table_replaced store group number place table new q p fits is =
    let there : (table_exists (own_name group number) ≡ true) × (place ≡ table_place group number) = grind arith in
    ap (λ (l : List ℕ). record { tables = l; written = set store.written place 1 })
    (put_mid-paste (place * 256) (place * 256 + 256 - place * 256) store.tables new table 256 is (omega arith) (sym fits)) ∙
    ap (λ (q : ℕ). record { tables = paste store.tables (q * 256) table 256; written = set store.written q 1 }) there.1 ∙
    sym (after_answer group number table (write_accepted group number table there.0 fits) store)
