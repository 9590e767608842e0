-- What is shown of the row by the ranks that an order gives all bytes, said of the row of that order.
-- Assumes nothing.
use mathlib.Core.Path.{◌≡◌, subst}
use mathlib.Core.Bool.{true}
use mathlib.Core.List.{List}
use Prim.Native.Nat.{ℕ}
use lib.ListN.{length}
use Rattle.words.specs.Letters.{Letters, order_of}
use Rattle.words.specs.Decided.{Decided, decided_order}
use Rattle.answer.specs.Limits.{table_length}
use Rattle.checks.specs.Checks.{uses_table}
use Rattle.letters.specs.declared.Order.{Order}
use Rattle.letters.specs.Compared.{order_number, numbered_order, numbered}
use Rattle.letters.specs.Ranks.{rank_row, row_in, direction_of}
use Rattle.letters.specs.Keys.{rank_table}
use Rattle.letters.specs.RankLaws.{Bytes, rank_table_row}

pub in_order : (P : (O : Letters {0, 0} ℕ) → Decided O → List ℕ → Type 0) (number : ℕ) (order : Order) (table ranks x : List ℕ) →
    order ≡ numbered_order (direction_of number) → ranks ≡ rank_table number table → Bytes x → (uses_table number ≡ true → length table ≡ table_length) →
    P (order_of (order_number order)) (decided_order (order_number order)) (rank_row ranks x) →
    P (order_of (direction_of number)) (decided_order (direction_of number)) (row_in number table x)
in_order P number order table ranks x d e letters fits h =
    numbered (λ O D. P O D (row_in number table x)) (direction_of number)
    (subst (λ (k : Order). P (order_of (order_number k)) (decided_order (order_number k)) (row_in number table x)) d
    (subst (P (order_of (order_number order)) (decided_order (order_number order))) (rank_table_row number table x letters fits)
    (subst (λ (t : List ℕ). P (order_of (order_number order)) (decided_order (order_number order)) (rank_row t x)) e h)))
