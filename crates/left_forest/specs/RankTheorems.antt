-- The ranked call by order and table (document 02, E1).
-- Assumes nothing.
use Rattle.std.specs.Prelude.{◌≡◌, refl, true, List, ℕ, zero, suc, ◌<◌, ◌≤◌, length, get_or, take, drop}
use Rattle.std.proofs.Common.{ap, ◌∙◌, arith}
use Rattle.words.specs.Letters.{order_of}
use Rattle.words.specs.LeftForest.{IsLeftForest}
use Rattle.answer.specs.declared.Answer.{Answer}
use Rattle.answer.specs.Answers.{accepted_with}
use Rattle.answer.specs.AfterCall.{content_after}
use Rattle.answer.specs.Limits.{Sized, ranked_order, table_length}
use Rattle.checks.specs.Checks.{output_checked, uses_table}
use Rattle.letters.specs.Ranks.{rank_row, row_in, direction_of}
use Rattle.letters.specs.RankLaws.{row_checked, identity_row}
use Rattle.left_forest.specs.Answers.{left_first_in, left_past_in, left_forest_ranked_answer}
use Rattle.left_forest.specs.Theorems.{left_first_ranked_after, left_past_ranked_after}
use Rattle.left_forest.specs.Theorems.{left_forest_ranked_accepts, left_forest_ranked_written, left_forest_ranked_rest}

-- All answers by a table are those in order 0 for the row of ranks: over every table of 256 entries, every text, also one that is refused,
-- and every two buffers. In order 0 the table t is not looked at.
module _ (table : List ℕ) (fits : length table ≡ table_length) (t x first past : List ℕ) where
  answer_by_rank :
      left_forest_ranked_answer 2 table x (length first) (length past) ≡ left_forest_ranked_answer 0 t (rank_row table x) (length first) (length past)
  answer_by_rank = row_checked table t x fits (λ n. output_checked n (length first) (output_checked n (length past) (accepted_with n)))

  -- The left forest, answer and both buffers.
  pub left_forest_by_rank :
      (left_forest_ranked_answer 2 table x (length first) (length past) ≡ left_forest_ranked_answer 0 t (rank_row table x) (length first) (length past)) ×
      (left_first_ranked_after 2 table x first past ≡ left_first_ranked_after 0 t (rank_row table x) first past) ×
      (left_past_ranked_after 2 table x first past ≡ left_past_ranked_after 0 t (rank_row table x) first past)
  left_forest_by_rank = (
    answer_by_rank,
    ap (λ (r : Answer). content_after r (left_first_in 2 table x) first) answer_by_rank,
    ap (λ (r : Answer). content_after r (left_past_in 2 table x) past) answer_by_rank,
  )

  -- A table that gives each byte its own number gives the answers of order 0.
  module _ (own : (a : ℕ) → a < table_length → get_or table a 0 ≡ a) (bytes : (i : ℕ) → i < length x → get_or x i 0 < table_length) where
    own_row : rank_row table x ≡ x
    own_row = identity_row table x own bytes

    pub left_forest_by_own_rank :
        (left_forest_ranked_answer 2 table x (length first) (length past) ≡ left_forest_ranked_answer 0 t x (length first) (length past)) ×
        (left_first_ranked_after 2 table x first past ≡ left_first_ranked_after 0 t x first past) ×
        (left_past_ranked_after 2 table x first past ≡ left_past_ranked_after 0 t x first past)
    left_forest_by_own_rank = (
      left_forest_by_rank.0 ∙ ap (λ (y : List ℕ). left_forest_ranked_answer 0 t y (length first) (length past)) own_row,
      left_forest_by_rank.1 ∙ ap (λ (y : List ℕ). left_first_ranked_after 0 t y first past) own_row,
      left_forest_by_rank.2 ∙ ap (λ (y : List ℕ). left_past_ranked_after 0 t y first past) own_row,
    )

-- Orders 0 and 1 do not look at the table: any two give one answer and one content of each buffer, also where the call refuses.
pub left_forest_unranked : (order : ℕ) → order ≤ 1 → (table t x first past : List ℕ) →
    (left_forest_ranked_answer order table x (length first) (length past) ≡ left_forest_ranked_answer order t x (length first) (length past)) ×
    (left_first_ranked_after order table x first past ≡ left_first_ranked_after order t x first past) ×
    (left_past_ranked_after order table x first past ≡ left_past_ranked_after order t x first past)
left_forest_unranked zero l table t x first past = (refl, refl, refl)
left_forest_unranked (suc zero) l table t x first past = (refl, refl, refl)
left_forest_unranked (suc (suc order)) l table t x first past = absurd (omega arith)

-- Orders 0 and 1 are the definitions under rising and falling letters: a text of 1 to 1,048,576 letters, with two buffers that are long enough, is
-- accepted, the count is n, the first n places of both hold its left forest, and the others what they held before.
module _
    (table x first past : List ℕ)
    (sized : Sized (length x))
    (first_room : length x ≤ length first)
    (past_room : length x ≤ length past)
  where
    -- The same in every order, of what is compared in it.
    left_forest_of_order : (order : ℕ) → order ≤ ranked_order → (uses_table order ≡ true → length table ≡ table_length) →
        (left_forest_ranked_answer order table x (length first) (length past) ≡ accepted_with (length x)) ×
        IsLeftForest (order_of (direction_of order)) (row_in order table x) (take (length x) (left_first_ranked_after order table x first past))
        (take (length x) (left_past_ranked_after order table x first past)) ×
        (drop (length x) (left_first_ranked_after order table x first past) ≡ drop (length x) first) ×
        (drop (length x) (left_past_ranked_after order table x first past) ≡ drop (length x) past)
    left_forest_of_order order named fits =
        let rest = left_forest_ranked_rest x sized first past first_room past_room order table named fits in (
          left_forest_ranked_accepts x sized first past first_room past_room order table named fits,
          left_forest_ranked_written x sized first past first_room past_room order table named fits,
          rest.0,
          rest.1,
        )

    pub left_forest_by_number : (order : ℕ) → order ≤ 1 →
        (left_forest_ranked_answer order table x (length first) (length past) ≡ accepted_with (length x)) ×
        IsLeftForest (order_of order) x (take (length x) (left_first_ranked_after order table x first past))
        (take (length x) (left_past_ranked_after order table x first past)) ×
        (drop (length x) (left_first_ranked_after order table x first past) ≡ drop (length x) first) ×
        (drop (length x) (left_past_ranked_after order table x first past) ≡ drop (length x) past)
    left_forest_by_number zero l = left_forest_of_order 0 (omega arith) (λ e. cc)
    left_forest_by_number (suc zero) l = left_forest_of_order 1 (omega arith) (λ e. cc)
    left_forest_by_number (suc (suc order)) l = absurd (omega arith)
