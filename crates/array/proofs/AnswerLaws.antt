-- What array and runs by the keys of an order are.
-- Assumes nothing.
use mathlib.Core.Path.{◌≡◌, ap, sym, ◌∙◌}
use Rattle.std.specs.Prelude.{⊤, Ok}
use mathlib.Core.Bool.{true}
use mathlib.Core.List.{List, [], ◌++◌}
use Prim.Native.Nat.{ℕ, zero, suc, ◌≤◌}
use native.Mathlib.Omega.{arith}
use lib.ListN.{length, drop}
use Rattle.words.specs.Decided.{decided_order, decided_rising, decided_falling}
use Rattle.words.specs.Compute.LyndonArray.{array_of, array_of_holds}
use Rattle.words.specs.Laws.Unique.{array_unique}
use Rattle.words.specs.Laws.OrderedAlike.{alike_array}
use Rattle.checks.specs.Checks.{uses_table, Refuses}
use Rattle.checks.specs.CheckLaws.{table_unused}
use Rattle.answer.specs.AfterCall.{content_after}
use Rattle.answer.specs.AfterLaws.{content_accepted}
use Rattle.answer.specs.declared.Answer.{Answer}
use Rattle.answer.specs.Answers.{accepted_with}
use Rattle.answer.specs.Limits.{ranked_order, table_length}
use Rattle.letters.specs.Ranks.{rank_row, row_in, direction_of}
use Rattle.letters.specs.Keys.{rank_table, turned_table, key_table}
use Rattle.letters.specs.RankLaws.{Bytes, row_in_length, rank_table_row, rank_table_bytes, turned_alike}
use Rattle.array.specs.Calls.{array_in, run_list, run_numbers, both_arrays}
use Rattle.array.specs.RankTheorems.{unranked_array}
use Rattle.array.specs.Core.RunPass.{RunsFound}

-- The rising array by the keys of an order is the array in that order.
pub keyed_array : (order : ℕ) (table x : List ℕ) → Bytes x → Bytes table → order ≤ ranked_order → (uses_table order ≡ true → length table ≡ table_length) →
    array_of decided_rising (rank_row (key_table order table) x) ≡ array_in order table x
keyed_array zero table x text ranks l fits = ap (array_of decided_rising) (rank_table_row 0 table x text fits)
keyed_array (suc zero) table x text ranks l fits =
    let alike = turned_alike (rank_table 1 table) x text (rank_table_bytes 1 table ranks) in
    array_unique (alike_array alike (array_of decided_rising (rank_row (turned_table (rank_table 1 table)) x)) (array_of_holds decided_rising _))
    (array_of_holds decided_falling (rank_row (rank_table 1 table) x)) ∙
    ap (array_of decided_falling) (rank_table_row 1 table x text fits)
keyed_array (suc (suc zero)) table x text ranks l fits = ap (array_of decided_rising) (rank_table_row 2 table x text fits)
keyed_array (suc (suc (suc order))) table x text ranks l fits = absurd (omega arith)

-- What `lyndon_array_ranked` writes by the keys of its order.
pub ranked_content : (order : ℕ) (table x keys out part : List ℕ) (count : ℕ) {r : Answer} → Bytes x → Bytes table → order ≤ ranked_order →
    (uses_table order ≡ true → length table ≡ table_length) → keys ≡ key_table order table → r ≡ accepted_with count →
    part ≡ array_of decided_rising (rank_row keys x) → part ++ drop (length x) out ≡ content_after r (array_in order table x) out
ranked_content order table x keys out part count {r} text ranks named fits is_keys told content =
    let row : part ≡ array_in order table x =
    content ∙ ap (λ (k : List ℕ). array_of decided_rising (rank_row k x)) is_keys ∙ keyed_array order table x text ranks named fits in
    let size : length x ≡ length (array_in order table x) =
    sym (row_in_length order table x) ∙ sym (array_of_holds (decided_order (direction_of order)) (row_in order table x)).size in
    content_accepted r count told (array_in order table x) out (part ++ drop (length x) out) (rw (row, size))

-- And `lyndon_array` by those of its own, for which no table is looked at.
pub ordered_content : (order : ℕ) (x keys out part : List ℕ) (count : ℕ) {r : Answer} → Bytes x → order ≤ 1 → keys ≡ key_table order [] →
    r ≡ accepted_with count → part ≡ array_of decided_rising (rank_row keys x) →
    part ++ drop (length x) out ≡ content_after r (array_of (decided_order order) x) out
ordered_content order x keys out part count {r} text named is_keys told content =
    ranked_content order [] x keys out part count text (record { byte = λ i. omega arith }) (omega arith) (λ u. absurd (table_unused order named u)) is_keys
    told content ∙ ap (λ (l : List ℕ). content_after r l out) (unranked_array order named [] x)

-- By the ranks of order 0 the row is the text.
pub plain_row : (x keys : List ℕ) → Bytes x → keys ≡ rank_table 0 [] → rank_row keys x ≡ x
plain_row x keys text e = ap (λ (k : List ℕ). rank_row k x) e ∙ rank_table_row 0 [] x text (λ u. absurd (table_unused 0 (omega arith) u))

-- By those of order 2 it is that of the table, if it has 256 entries.
pub ranked_row : (x keys table : List ℕ) → Bytes x → length table ≡ table_length → keys ≡ rank_table 2 table → rank_row keys x ≡ rank_row table x
ranked_row x keys table text fits e = ap (λ (k : List ℕ). rank_row k x) e ∙ rank_table_row 2 table x text (λ u. fits)

-- What is answered and written where the runs of x are found, if x is y.
pub found_as : (x y work work' list list' : List ℕ) {r : Answer} {check : Answer → Answer} {u : ⊤} → x ≡ y → RunsFound x work work' list list' r →
    Refuses (Ok u) check →
    (r ≡ check (accepted_with (length (run_list y)))) × (list' ≡ content_after r (run_numbers y) list) × (work' ≡ content_after r (both_arrays y) work)
found_as x y work work' list list' same found checked =
    rw (found.counted, ← same) (checked.answer _, found.entries, found.arrays)
