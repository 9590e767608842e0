-- Factor lists and arrays made in one order (document 02, E12): two texts then have equal arrays exactly when their factor lists and right forests
-- are equal. Here of what the calls write.
-- Assumes nothing.
use Rattle.std.specs.Prelude.{◌≡◌, ◌↔◌, true, List, ℕ, ◌≤◌, length, take}
use Rattle.std.proofs.Common.{sym, subst, ◌∙◌, arith}
use Rattle.words.specs.Letters.{Letters, order_of}
use Rattle.words.specs.LyndonArray.{IsLyndonArray}
use Rattle.words.specs.Factorization.{IsFactorization}
use Rattle.words.specs.RightForest.{IsRightForest}
use Rattle.words.specs.ArrayTheorems.{equal_arrays_exactly}
use Rattle.answer.specs.Limits.{Sized, ranked_order, table_length}
use Rattle.checks.specs.Checks.{uses_table}
use Rattle.checks.specs.CheckLaws.{table_unused}
use Rattle.letters.specs.Ranks.{direction_of, row_in}
use Rattle.letters.specs.RankLaws.{row_in_length}
use Rattle.letters.specs.Default.{default_table}
use Rattle.letters.specs.DefaultLaws.{default_length}
use Rattle.array.specs.Theorems.{array_after}
use Rattle.array.specs.RankTheorems.{array_ranked_after, array_unranked, array_ranked_written}
use Rattle.factors.specs.Answers.{default_factors, factors_in}
use Rattle.factors.specs.Theorems.{starts_after, factors_ranked_after, factorization_default, factorization_ranked_written}
use Rattle.from_array.specs.Theorems.{right_first_after, right_past_after, written_forest}

-- Buffers for the array, the factor list and the two lists of the right forest of a text, each long enough.
pub record Buffers (x : List ℕ) : Type 0 where
  pub array : List ℕ
  pub factors : List ℕ
  pub first : List ℕ
  pub past : List ℕ
  pub array_room : length x ≤ length array
  pub factors_room : length x ≤ length factors
  pub first_room : length x ≤ length first
  pub past_room : length x ≤ length past

-- What `lyndon_array_ranked` writes into its buffer.
abbrev pub array_written : ℕ → List ℕ → (x : List ℕ) → Buffers x → List ℕ
array_written order table x b = take (length x) (array_ranked_after order table x b.array)

-- What `factorization_ranked` writes into its buffer: as many places as it counts.
abbrev pub factors_written : ℕ → List ℕ → (x : List ℕ) → Buffers x → List ℕ
factors_written order table x b = take (length (factors_in order table x)) (factors_ranked_after order table x b.factors)

-- What `factorization`, which takes no order, writes.
abbrev pub starts_written : (x : List ℕ) → Buffers x → List ℕ
starts_written x b = take (length (default_factors x)) (starts_after x b.factors)

-- What `right_forest` writes into its first buffer, of an array a.
abbrev pub first_written : List ℕ → (x : List ℕ) → Buffers x → List ℕ
first_written a x b = take (length a) (right_first_after a b.first b.past)

-- And into its second.
abbrev pub past_written : List ℕ → (x : List ℕ) → Buffers x → List ℕ
past_written a x b = take (length a) (right_past_after a b.first b.past)

-- An order of the ranked calls, with a table that has 256 entries where it is used.
module _ (order : ℕ) (named : order ≤ ranked_order) (table : List ℕ) (fits : uses_table order ≡ true → length table ≡ table_length) where
  abbrev O : Letters {0, 0} ℕ
  O = order_of (direction_of order)

  -- A text of 1 to 1,048,576 letters.
  module _ (x : List ℕ) (sized : Sized (length x)) (b : Buffers x) where
    abbrev a : List ℕ
    a = array_written order table x b

    is_array : IsLyndonArray O (row_in order table x) a
    is_array = array_ranked_written x sized order named table fits b.array b.array_room

    is_list : IsFactorization O (row_in order table x) (factors_written order table x b)
    is_list = factorization_ranked_written x sized b.factors b.factors_room order table named fits

    a_length : length a ≡ length x
    a_length = is_array.size ∙ row_in_length order table x

    is_forest : IsRightForest O (row_in order table x) (first_written a x b) (past_written a x b)
    is_forest =
        written_forest a (subst Sized (sym a_length) sized) b.first b.past (omega (arith, a_length, b.first_room))
        (omega (arith, a_length, b.past_room)) O (row_in order table x) is_array

  -- Two texts have equal arrays exactly when their factor lists and right forests are equal, all in this order. (Demand 3 says it of texts of one
  -- length; of texts of two lengths neither holds.)
  pub equal_arrays_in_one_order : (x y : List ℕ) → Sized (length x) → Sized (length y) → (b : Buffers x) (d : Buffers y) →
      (array_written order table x b ≡ array_written order table y d) ↔
      ((factors_written order table x b ≡ factors_written order table y d) ×
      (first_written (array_written order table x b) x b ≡ first_written (array_written order table y d) y d) ×
      (past_written (array_written order table x b) x b ≡ past_written (array_written order table y d) y d))
  equal_arrays_in_one_order x y sized_x sized_y b d =
      equal_arrays_exactly O O (row_in order table x) (row_in order table y) _ _ _ _ _ _ _ _ (is_array x sized_x b) (is_array y sized_y d)
      (is_list x sized_x b) (is_list y sized_y d) (is_forest x sized_x b) (is_forest y sized_y d)

-- What `lyndon_array` of bytes writes into its buffer, in order 0 or 1.
abbrev pub plain_array_written : ℕ → (x : List ℕ) → Buffers x → List ℕ
plain_array_written order x b = take (length x) (array_after x order b.array)

-- The array by `lyndon_array`, which takes order 0 or 1, goes with the factor list by `factorization_ranked` in that order, which looks at no table.
pub equal_arrays_by_number : (order : ℕ) → order ≤ 1 → (table x y : List ℕ) → Sized (length x) → Sized (length y) → (b : Buffers x) (d : Buffers y) →
    (plain_array_written order x b ≡ plain_array_written order y d) ↔
    ((factors_written order table x b ≡ factors_written order table y d) ×
    (first_written (plain_array_written order x b) x b ≡ first_written (plain_array_written order y d) y d) ×
    (past_written (plain_array_written order x b) x b ≡ past_written (plain_array_written order y d) y d))
equal_arrays_by_number order named table x y sized_x sized_y b d =
    rw (← (array_unranked order named table x b.array).1, ← (array_unranked order named table y d.array).1)
    (equal_arrays_in_one_order order (omega arith) table (λ e. absurd (table_unused order named e)) x y sized_x sized_y b d)

-- The factor list without an order goes with the array in order 2 by the table of the default order.
pub equal_arrays_by_default : (x y : List ℕ) → Sized (length x) → Sized (length y) → (b : Buffers x) (d : Buffers y) →
    (array_written 2 default_table x b ≡ array_written 2 default_table y d) ↔
    ((starts_written x b ≡ starts_written y d) ×
    (first_written (array_written 2 default_table x b) x b ≡ first_written (array_written 2 default_table y d) y d) ×
    (past_written (array_written 2 default_table x b) x b ≡ past_written (array_written 2 default_table y d) y d))
equal_arrays_by_default x y sized_x sized_y b d =
    rw ((factorization_default x b.factors).1, (factorization_default y d.factors).1)
    (equal_arrays_in_one_order 2 (omega arith) default_table (λ e. default_length) x y sized_x sized_y b d)
