-- Laws of the store: its lengths, and what a write changes and keeps.
-- Assumes nothing.
use Rattle.std.specs.Prelude.{◌≡◌, refl, Bool, true, false, not, List, ◌++◌, ℕ, ◌+◌, ◌-◌, ◌<◌, ◌≤◌, eqb, length, take, drop}
use Rattle.std.proofs.Common.{sym, ap, ap₂, subst, ◌∙◌, arith, eqb-true, eq-eqb, length-set, length-take-le, take_all, get_or-set_same, get_or-set_other}
use Rattle.std.proofs.Math.Decide.{dec_lt}
use Rattle.std.proofs.lemmas.List.{length-replicate}
use Rattle.std.proofs.Math.Seq.{paste}
use Rattle.std.proofs.lemmas.List.Edits.{length-paste}
use borrow.Rule.Slice.PartMut.{put_mid}
use Rattle.std.proofs.lemmas.Slice.{put_mid-paste, between-put_mid, between_is, take-put_mid_below, drop-put_mid}
use Rattle.answer.specs.declared.Reason.TheVariants.{UnknownTable, WrongTable}
use Rattle.answer.specs.declared.Answer.{Answer}
use Rattle.answer.specs.Answers.{accepted_with, refused_if}
use Rattle.answer.specs.Limits.{table_length}
use Rattle.table_store.specs.declared.store.TableStore.{TableStore}
use Rattle.table_store.specs.declared.store.TableName.{TableName}
use Rattle.table_store.specs.Store.{own_tables, group_exists, table_exists, table_place, table_start, new_store, written_flag, own_table, with_table}
use Rattle.table_store.specs.Store.{own_name, Lookup, missing, lookup_in, lookup}
use Rattle.table_store.specs.Calls.{write_answer, store_in, store_after}

-- A store has the bytes of six tables and six flags.
pub record Whole (store : TableStore) : Type 0 where
  pub bytes : length store.tables ≡ 1536
  pub flags : length store.written ≡ 6

pub new_whole : Whole new_store
new_whole = record { bytes = length-replicate {A = ℕ} 1536 0; flags = length-replicate {A = ℕ} 6 0 }

-- A group has an own table of this number.
pub record Existing (group number : ℕ) : Type 0 where
  pub first : 1 ≤ group
  pub last : group ≤ 2
  pub low : number < own_tables

pub group_table : (group number : ℕ) → group_exists group ≡ true → number < own_tables → Existing group number
group_table group number e l = record { first = grind arith; last = grind arith; low = l }

pub own_table_lem : (group number : ℕ) → table_exists (own_name group number) ≡ true → Existing group number
own_table_lem group number e = record { first = grind arith; last = grind arith; low = grind arith }

-- Where there is no such table, a call finds none.
pub no_lookup : (store : TableStore) (name : TableName) → table_exists name ≡ false → lookup store name ≡ missing UnknownTable
no_lookup store name e = rw e

-- What a call finds of an own table, by its flag and its bytes.
abbrev pub found_by : ℕ → List ℕ → Lookup
found_by flag table = lookup_in true (not (eqb flag 0)) table

pub own_lookup : (store : TableStore) (group number : ℕ) → table_exists (own_name group number) ≡ true →
    lookup store (own_name group number) ≡ found_by (written_flag store group number) (own_table store group number)
own_lookup store group number e = rw e

-- A list in which the n elements from `at` on are replaced.
module _ (d : List ℕ) (at : ℕ) (s : List ℕ) (n : ℕ) (inside : at + n ≤ length d) (enough : n ≤ length s) where
  all : length (take n s) ≡ n
  all = length-take-le n s enough

  pasted : paste d at s n ≡ put_mid at n d (take n s)
  pasted =
      ap (λ (l : List ℕ). (take at d ++ l) ++ drop (at + n) d) (sym (take_all n (take n s) (omega (arith, all)))) ∙
      sym (put_mid-paste at n d (take n s) (take n s) n refl refl (sym all))

  -- Those are the new ones.
  paste_here : take n (drop at (paste d at s n)) ≡ take n s
  paste_here =
      let size : at + n - at ≡ n = omega arith in
      rw pasted (rw size at (between-put_mid at n d (take n s) (at + n) (omega arith) (omega (arith, all))))

  -- A part before them is as it was.
  paste_before : (m f : ℕ) → f + m ≤ at → take m (drop f (paste d at s n)) ≡ take m (drop f d)
  paste_before m f h =
      let size : f + m - f ≡ m = omega arith in
      let part : (l : List ℕ) → take m (drop f l) ≡ drop f (take (f + m) l) = λ l. rw size at (between_is l f (f + m)) in
      part (paste d at s n) ∙ ap (drop f) (rw pasted (take-put_mid_below at n d (take n s) (f + m) h (omega arith))) ∙ sym (part d)

  -- And so is all behind them.
  paste_behind : (f : ℕ) → at + n ≤ f → drop f (paste d at s n) ≡ drop f d
  paste_behind f h = rw pasted (drop-put_mid at n d (take n s) f h (omega arith) all)

-- Where the bytes of a group's own table start.
abbrev start_of : ℕ → ℕ → ℕ
start_of group number = table_start (table_place group number)

-- A table of 256 bytes is written.
module _ (store : TableStore) (whole : Whole store) (group number : ℕ) (own : Existing group number) (table : List ℕ) (fits : length table ≡ table_length) where
  room : start_of group number + table_length ≤ length store.tables
  room = omega (arith, whole, own)

  with_whole : Whole (with_table store group number table)
  with_whole =
      record {
        bytes = length-paste store.tables (start_of group number) table table_length room (omega arith) ∙ whole.bytes;
        flags = length-set store.written (table_place group number) 1 ∙ whole.flags;
      }

  -- It is what its place holds, and its flag is 1.
  with_table_lem : own_table (with_table store group number table) group number ≡ table
  with_table_lem =
      paste_here store.tables (start_of group number) table table_length room (omega arith) ∙ take_all table_length table (omega arith)

  with_flag : written_flag (with_table store group number table) group number ≡ 1
  with_flag = get_or-set_same store.written (table_place group number) 1 0 (omega (arith, whole, own))

  -- Every other table and its flag are as they were.
  module _ (g k : ℕ) (other : Existing g k) (apart : ¬ ((group ≡ g) × (number ≡ k))) where
    places_apart : ¬ (table_place g k ≡ table_place group number)
    places_apart e = apart (omega (arith, own, other), omega (arith, own, other))

    with_others : (own_table (with_table store group number table) g k ≡ own_table store g k) ×
        (written_flag (with_table store group number table) g k ≡ written_flag store g k)
    with_others =
        (bytes (dec_lt (table_place g k) (table_place group number)), get_or-set_other store.written (table_place group number) (table_place g k) 1 0 places_apart)
      where
        bytes : Dec (table_place g k < table_place group number) → own_table (with_table store group number table) g k ≡ own_table store g k
        bytes (yes l) =
            paste_before store.tables (start_of group number) table table_length room (omega arith) table_length (start_of g k) (omega arith)
        bytes (no l) =
            ap (take table_length)
            (paste_behind store.tables (start_of group number) table table_length room (omega arith) (start_of g k) (omega (arith, places_apart)))

-- The answer of a write, by whether there is such a table and whether 256 entries are given.
abbrev write_in : Bool → Bool → Answer
write_in exists fits = refused_if (not exists) UnknownTable 0 (refused_if (not fits) WrongTable 0 (accepted_with table_length))

module _ (group number : ℕ) (table : List ℕ) where
  -- The store after a write, by its answer.
  pub after_answer : {answer : Answer} → write_answer group number (length table) ≡ answer → (store : TableStore) →
      store_after store group number table ≡ store_in answer.outcome (with_table store group number table) store
  after_answer e store = ap (λ (r : Answer). store_in r.outcome (with_table store group number table) store) e

  pub write_accepted : table_exists (own_name group number) ≡ true → length table ≡ table_length → write_answer group number (length table) ≡ accepted_with table_length
  write_accepted exists fits = ap₂ write_in exists (eq-eqb (length table) table_length fits)

  -- A write is accepted, or leaves the store as it was.
  pub data WriteCase : Type 0 where
    replaced : table_exists (own_name group number) ≡ true → length table ≡ table_length → WriteCase
    unchanged : ((store : TableStore) → store_after store group number table ≡ store) → WriteCase

  pub write_case : WriteCase
  write_case = go (table_exists (own_name group number)) (eqb (length table) table_length) refl refl refl
    where
      go : (t u : Bool) → table_exists (own_name group number) ≡ t → eqb (length table) table_length ≡ u →
          write_answer group number (length table) ≡ write_in t u → WriteCase
      go true true e f answer = replaced e (eqb-true (length table) table_length f)
      go true false e f answer = unchanged (after_answer answer)
      go false u e f answer = unchanged (after_answer answer)

-- After a write.
module _ (store : TableStore) (whole : Whole store) (group number : ℕ) (table : List ℕ) where
  -- The lengths are as before.
  pub after_whole : Whole (store_after store group number table)
  after_whole = go (write_case group number table)
    where
      go : WriteCase group number table → Whole (store_after store group number table)
      go (replaced exists fits) =
          subst Whole (sym (after_answer group number table (write_accepted group number table exists fits) store))
          (with_whole store whole group number (own_table_lem group number exists) table fits)
      go (unchanged e) = subst Whole (sym (e store)) whole

  -- The table written is what its place holds, and its flag is 1.
  pub after_table : table_exists (own_name group number) ≡ true → length table ≡ table_length →
      (own_table (store_after store group number table) group number ≡ table) × (written_flag (store_after store group number table) group number ≡ 1)
  after_table exists fits =
      let new = after_answer group number table (write_accepted group number table exists fits) store in
      let own = own_table_lem group number exists in (
        ap (λ (s : TableStore). own_table s group number) new ∙ with_table_lem store whole group number own table fits,
        ap (λ (s : TableStore). written_flag s group number) new ∙ with_flag store whole group number own table fits,
      )

  -- Every other table and its flag are as before.
  module _ (g k : ℕ) (other : Existing g k) (apart : ¬ ((group ≡ g) × (number ≡ k))) where
    abbrev KeptIn : TableStore → Type 0
    KeptIn s = (own_table s g k ≡ own_table store g k) × (written_flag s g k ≡ written_flag store g k)

    pub after_others : (own_table (store_after store group number table) g k ≡ own_table store g k) ×
        (written_flag (store_after store group number table) g k ≡ written_flag store g k)
    after_others = go (write_case group number table)
      where
        go : WriteCase group number table → KeptIn (store_after store group number table)
        go (replaced exists fits) =
            subst KeptIn (sym (after_answer group number table (write_accepted group number table exists fits) store))
            (with_others store whole group number (own_table_lem group number exists) table fits g k other apart)
        go (unchanged e) = subst KeptIn (sym (e store)) (refl, refl)
