-- The orders and the answers of a comparison, as the code has them.
-- Assumes nothing.
use Rattle.std.specs.Prelude.{ℕ, zero, suc}
use Rattle.std.specs.declared.cmp.Ordering.{Ordering}
use Rattle.std.specs.declared.cmp.Ordering.TheVariants.{Less, Equal, Greater}
use Rattle.words.specs.Letters.{Letters, order_of}
use Rattle.words.specs.Decided as words
use Rattle.words.specs.Decided.{Decided, decided_order}
use Rattle.letters.specs.declared.Order.{Order}
use Rattle.letters.specs.declared.Order.TheVariants.{Rising, Falling}

abbrev pub comparison_of : words.Comparison → Ordering
comparison_of words.below = Less
comparison_of words.same = Equal
comparison_of words.above = Greater

-- The number of an order.
abbrev pub order_number : Order → ℕ
order_number Rising = 0
order_number Falling = 1

-- The order of a number: 0 is rising, and every other stands for falling, as in `order_of`.
abbrev pub numbered_order : ℕ → Order
numbered_order zero = Rising
numbered_order (suc k) = Falling

-- What holds in the order of a number as the code has it holds in the order of that number.
pub numbered {ℓ} : (P : (O : Letters {0, 0} ℕ) → Decided O → Type ℓ) (k : ℕ) →
    P (order_of (order_number (numbered_order k))) (decided_order (order_number (numbered_order k))) → P (order_of k) (decided_order k)
numbered P zero h = h
numbered P (suc k) h = h
