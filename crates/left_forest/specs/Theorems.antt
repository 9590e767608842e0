-- What the contracts of the calls say by the published definitions: texts of 1 to 1,048,576 letters are accepted, and what is then in the
-- buffers.
-- Assumes nothing.
use Rattle.std.specs.Prelude.{◌≡◌, true, List, ℕ, ◌≤◌, length, take, drop}
use Rattle.std.proofs.Common.{ap, ◌∙◌, arith}
use Rattle.words.specs.Letters.{rising, order_of}
use Rattle.words.specs.Decided.{decided_order}
use Rattle.words.specs.LeftForest.{IsLeftForest}
use Rattle.words.specs.Compute.Factorization.{factorization_of_holds}
use Rattle.words.specs.Laws.ForestRecords.{left_forest_of_holds}
use Rattle.answer.specs.declared.Answer.{Answer}
use Rattle.answer.specs.Answers.{accepted_with}
use Rattle.answer.specs.AfterCall.{content_after}
use Rattle.answer.specs.Limits.{Sized, ranked_order, table_length}
use Rattle.answer.specs.AfterLaws.{written_first, written_rest}
use Rattle.checks.specs.Checks.{uses_table}
use Rattle.checks.specs.CheckLaws.{forest_passes, ranked_forest_as}
use Rattle.letters.specs.Ranks.{direction_of, row_in}
use Rattle.letters.specs.RankLaws.{row_in_length}
use Rattle.letters.specs.Default.{default_table, default_row}
use Rattle.letters.specs.DefaultLaws.{default_length, default_forest_checks}
use Rattle.left_forest.specs.Answers.{default_left_first, default_left_past, left_forest_answer, left_first_in, left_past_in, left_forest_ranked_answer}

-- What `left_forest` leaves in its first buffer, by its contract.
abbrev pub left_first_after : List ℕ → List ℕ → List ℕ → List ℕ
left_first_after x first past = content_after (left_forest_answer x (length first) (length past)) (default_left_first x) first

-- And in its second.
abbrev pub left_past_after : List ℕ → List ℕ → List ℕ → List ℕ
left_past_after x first past = content_after (left_forest_answer x (length first) (length past)) (default_left_past x) past

-- What `left_forest_ranked` leaves in its first buffer, by its contract.
abbrev pub left_first_ranked_after : ℕ → List ℕ → List ℕ → List ℕ → List ℕ → List ℕ
left_first_ranked_after order table x first past =
    content_after (left_forest_ranked_answer order table x (length first) (length past)) (left_first_in order table x) first

-- And in its second.
abbrev pub left_past_ranked_after : ℕ → List ℕ → List ℕ → List ℕ → List ℕ → List ℕ
left_past_ranked_after order table x first past =
    content_after (left_forest_ranked_answer order table x (length first) (length past)) (left_past_in order table x) past

-- The call without an order is the ranked call in order 2 by the table of the default order (document 02, E12): answer and both buffers, for
-- every text, also one that is refused, and every two buffers.
pub left_forest_default : (x first past : List ℕ) →
    (left_forest_answer x (length first) (length past) ≡ left_forest_ranked_answer 2 default_table x (length first) (length past)) ×
    (left_first_after x first past ≡ left_first_ranked_after 2 default_table x first past) ×
    (left_past_after x first past ≡ left_past_ranked_after 2 default_table x first past)
left_forest_default x first past =
    let answer : left_forest_answer x (length first) (length past) ≡ left_forest_ranked_answer 2 default_table x (length first) (length past) =
    default_forest_checks (length x) (length first) (length past) (accepted_with (length x)) in (
      answer,
      ap (λ (r : Answer). content_after r (default_left_first x) first) answer,
      ap (λ (r : Answer). content_after r (default_left_past x) past) answer,
    )

-- Two buffers that are long enough.
module _ (x : List ℕ) (sized : Sized (length x)) (first past : List ℕ) (first_room : length x ≤ length first) (past_room : length x ≤ length past) where
  -- An order number of the ranked call, and a table that has 256 entries where it is used.
  module _ (order : ℕ) (table : List ℕ) (named : order ≤ ranked_order) (fits : uses_table order ≡ true → length table ≡ table_length) where
    is_forest : IsLeftForest (order_of (direction_of order)) (row_in order table x) (left_first_in order table x) (left_past_in order table x)
    is_forest =
        let D = decided_order (direction_of order) in
        let row = row_in order table x in
        left_forest_of_holds D row (factorization_of_holds D row)

    first_size : length (left_first_in order table x) ≡ length x
    first_size = is_forest.first_size ∙ row_in_length order table x

    past_size : length (left_past_in order table x) ≡ length x
    past_size = is_forest.past_size ∙ row_in_length order table x

    -- `left_forest_ranked` refuses no text; the count is n.
    pub left_forest_ranked_accepts : left_forest_ranked_answer order table x (length first) (length past) ≡ accepted_with (length x)
    left_forest_ranked_accepts =
        ranked_forest_as (length x) _ order (length table) named fits (length first) (length past) ∙
        forest_passes (length x) sized _ (length first) (length past) first_room past_room

    -- The first n places of both buffers hold the left forest of the text: in order 2 that of the row of ranks.
    pub left_forest_ranked_written :
        IsLeftForest (order_of (direction_of order)) (row_in order table x) (take (length x) (left_first_ranked_after order table x first past))
        (take (length x) (left_past_ranked_after order table x first past))
    left_forest_ranked_written =
        let r = left_forest_ranked_answer order table x (length first) (length past) in
        rw (
          written_first r (length x) (length x) (left_first_in order table x) first left_forest_ranked_accepts first_size,
          written_first r (length x) (length x) (left_past_in order table x) past left_forest_ranked_accepts past_size,
        )
        is_forest

    -- The others hold what they held before.
    pub left_forest_ranked_rest :
        (drop (length x) (left_first_ranked_after order table x first past) ≡ drop (length x) first) ×
        (drop (length x) (left_past_ranked_after order table x first past) ≡ drop (length x) past)
    left_forest_ranked_rest =
        let r = left_forest_ranked_answer order table x (length first) (length past) in (
          written_rest r (length x) (length x) (left_first_in order table x) first left_forest_ranked_accepts first_size,
          written_rest r (length x) (length x) (left_past_in order table x) past left_forest_ranked_accepts past_size,
        )

  -- Likewise of the call without an order.

  -- `left_forest` refuses no text; the count is n.
  pub left_forest_accepts : left_forest_answer x (length first) (length past) ≡ accepted_with (length x)
  left_forest_accepts = forest_passes (length x) sized _ (length first) (length past) first_room past_room

  -- The first n places of both buffers hold the left forest of the row of ranks.
  pub left_forest_written :
      IsLeftForest rising (default_row x) (take (length x) (left_first_after x first past)) (take (length x) (left_past_after x first past))
  left_forest_written =
      let same = left_forest_default x first past in
      rw (same.1, same.2) (left_forest_ranked_written 2 default_table (omega arith) (λ e. default_length))

  -- The others hold what they held before.
  pub left_forest_rest :
      (drop (length x) (left_first_after x first past) ≡ drop (length x) first) × (drop (length x) (left_past_after x first past) ≡ drop (length x) past)
  left_forest_rest =
      let same = left_forest_default x first past in
      let rest = left_forest_ranked_rest 2 default_table (omega arith) (λ e. default_length) in
      (ap (drop (length x)) same.1 ∙ rest.0, ap (drop (length x)) same.2 ∙ rest.1)
