-- The ranked calls by order and table (document 02, E1).
-- Assumes nothing.
use Rattle.std.specs.Prelude.{◌≡◌, refl, true, List, ℕ, zero, suc, ◌<◌, ◌≤◌, length, get_or, take, drop}
use Rattle.std.proofs.Common.{ap, ◌∙◌, arith}
use Rattle.words.specs.Letters.{order_of}
use Rattle.words.specs.Decided.{decided_order}
use Rattle.words.specs.Factorization.{IsFactorization}
use Rattle.words.specs.SuffixTable.{IsSuffixTable}
use Rattle.words.specs.Compute.Factorization.{factorization_of}
use Rattle.answer.specs.declared.Answer.{Answer}
use Rattle.answer.specs.Answers.{accepted_with, accepted_after}
use Rattle.answer.specs.AfterCall.{content_after}
use Rattle.answer.specs.Limits.{Sized, ranked_order, table_length}
use Rattle.checks.specs.Checks.{output_checked, uses_table}
use Rattle.letters.specs.Ranks.{rank_row, row_in, direction_of}
use Rattle.letters.specs.RankLaws.{row_checked, identity_row}
use Rattle.factors.specs.Duval.{duval}
use Rattle.factors.specs.Answers.{factors_in, scan_comparisons, suffix_table_in}
use Rattle.factors.specs.Answers.{factorization_ranked_answer, suffix_table_ranked_answer}
use Rattle.factors.specs.Theorems.{factors_ranked_after, suffix_table_ranked_after, factorization_ranked_accepts, factorization_ranked_written}
use Rattle.factors.specs.Theorems.{factorization_ranked_rest, suffix_table_ranked_accepts, suffix_table_ranked_written, suffix_table_ranked_rest}

-- All answers by a table are those in order 0 for the row of ranks: over every table of 256 entries, every text, also one that is refused,
-- and every buffer. In order 0 the table t is not looked at.
module _ (table : List ℕ) (fits : length table ≡ table_length) (t x out : List ℕ) where
  -- The factor list, answer and buffer.
  pub factors_by_rank :
      (factorization_ranked_answer 2 table x (length out) ≡ factorization_ranked_answer 0 t (rank_row table x) (length out)) ×
      (factors_ranked_after 2 table x out ≡ factors_ranked_after 0 t (rank_row table x) out)
  factors_by_rank =
      let answer = row_checked table t x fits (λ n. output_checked n (length out) (accepted_after (length (factors_in 2 table x)) (scan_comparisons 2 table x))) in
      (answer, ap (λ (r : Answer). content_after r (factors_in 2 table x) out) answer)

  -- The Lyndon suffix table, answer and buffer.
  pub suffix_table_by_rank :
      (suffix_table_ranked_answer 2 table x (length out) ≡ suffix_table_ranked_answer 0 t (rank_row table x) (length out)) ×
      (suffix_table_ranked_after 2 table x out ≡ suffix_table_ranked_after 0 t (rank_row table x) out)
  suffix_table_by_rank =
      let answer = row_checked table t x fits (λ n. output_checked n (length out) (accepted_with n)) in
      (answer, ap (λ (r : Answer). content_after r (suffix_table_in 2 table x) out) answer)

  -- A table that gives each byte its own number gives the answers of order 0.
  module _ (own : (a : ℕ) → a < table_length → get_or table a 0 ≡ a) (bytes : (i : ℕ) → i < length x → get_or x i 0 < table_length) where
    own_row : rank_row table x ≡ x
    own_row = identity_row table x own bytes

    pub factors_by_own_rank :
        (factorization_ranked_answer 2 table x (length out) ≡ factorization_ranked_answer 0 t x (length out)) ×
        (factors_ranked_after 2 table x out ≡ factors_ranked_after 0 t x out)
    factors_by_own_rank = (
      factors_by_rank.0 ∙ ap (λ (y : List ℕ). factorization_ranked_answer 0 t y (length out)) own_row,
      factors_by_rank.1 ∙ ap (λ (y : List ℕ). factors_ranked_after 0 t y out) own_row,
    )

    pub suffix_table_by_own_rank :
        (suffix_table_ranked_answer 2 table x (length out) ≡ suffix_table_ranked_answer 0 t x (length out)) ×
        (suffix_table_ranked_after 2 table x out ≡ suffix_table_ranked_after 0 t x out)
    suffix_table_by_own_rank = (
      suffix_table_by_rank.0 ∙ ap (λ (y : List ℕ). suffix_table_ranked_answer 0 t y (length out)) own_row,
      suffix_table_by_rank.1 ∙ ap (λ (y : List ℕ). suffix_table_ranked_after 0 t y out) own_row,
    )

-- Orders 0 and 1 do not look at the table: any two give one answer and one content, also where the call refuses.
pub factors_unranked : (order : ℕ) → order ≤ 1 → (table t x out : List ℕ) →
    (factorization_ranked_answer order table x (length out) ≡ factorization_ranked_answer order t x (length out)) ×
    (factors_ranked_after order table x out ≡ factors_ranked_after order t x out)
factors_unranked zero l table t x out = (refl, refl)
factors_unranked (suc zero) l table t x out = (refl, refl)
factors_unranked (suc (suc order)) l table t x out = absurd (omega arith)

pub suffix_table_unranked : (order : ℕ) → order ≤ 1 → (table t x out : List ℕ) →
    (suffix_table_ranked_answer order table x (length out) ≡ suffix_table_ranked_answer order t x (length out)) ×
    (suffix_table_ranked_after order table x out ≡ suffix_table_ranked_after order t x out)
suffix_table_unranked zero l table t x out = (refl, refl)
suffix_table_unranked (suc zero) l table t x out = (refl, refl)
suffix_table_unranked (suc (suc order)) l table t x out = absurd (omega arith)

-- Orders 0 and 1 are the definitions under rising and falling letters: a text of 1 to 1,048,576 letters, with a buffer that is long enough, is
-- accepted, the count, and of the factor list the comparisons, are those of the definition, the places counted hold it, and the others what
-- they held before.
module _ (table x out : List ℕ) (sized : Sized (length x)) (room : length x ≤ length out) where
  -- The same in every order, of what is compared in it.
  factors_of_order : (order : ℕ) → order ≤ ranked_order → (uses_table order ≡ true → length table ≡ table_length) →
      let k = length (factors_in order table x) in
      (factorization_ranked_answer order table x (length out) ≡ accepted_after k (scan_comparisons order table x)) ×
      IsFactorization (order_of (direction_of order)) (row_in order table x) (take k (factors_ranked_after order table x out)) ×
      (drop k (factors_ranked_after order table x out) ≡ drop k out)
  factors_of_order order named fits = (
    factorization_ranked_accepts x sized out room order table named fits,
    factorization_ranked_written x sized out room order table named fits,
    factorization_ranked_rest x sized out room order table named fits,
  )

  pub factors_by_number : (order : ℕ) → order ≤ 1 →
      let k = length (factorization_of (decided_order order) x) in
      (factorization_ranked_answer order table x (length out) ≡ accepted_after k (duval (decided_order order) 0 x).comparisons) ×
      IsFactorization (order_of order) x (take k (factors_ranked_after order table x out)) × (drop k (factors_ranked_after order table x out) ≡ drop k out)
  factors_by_number zero l = factors_of_order 0 (omega arith) (λ e. cc)
  factors_by_number (suc zero) l = factors_of_order 1 (omega arith) (λ e. cc)
  factors_by_number (suc (suc order)) l = absurd (omega arith)

  suffix_table_of_order : (order : ℕ) → order ≤ ranked_order → (uses_table order ≡ true → length table ≡ table_length) →
      (suffix_table_ranked_answer order table x (length out) ≡ accepted_with (length x)) ×
      IsSuffixTable (order_of (direction_of order)) (row_in order table x) (take (length x) (suffix_table_ranked_after order table x out)) ×
      (drop (length x) (suffix_table_ranked_after order table x out) ≡ drop (length x) out)
  suffix_table_of_order order named fits = (
    suffix_table_ranked_accepts x sized out room order table named fits,
    suffix_table_ranked_written x sized out room order table named fits,
    suffix_table_ranked_rest x sized out room order table named fits,
  )

  pub suffix_table_by_number : (order : ℕ) → order ≤ 1 →
      (suffix_table_ranked_answer order table x (length out) ≡ accepted_with (length x)) ×
      IsSuffixTable (order_of order) x (take (length x) (suffix_table_ranked_after order table x out)) ×
      (drop (length x) (suffix_table_ranked_after order table x out) ≡ drop (length x) out)
  suffix_table_by_number zero l = suffix_table_of_order 0 (omega arith) (λ e. cc)
  suffix_table_by_number (suc zero) l = suffix_table_of_order 1 (omega arith) (λ e. cc)
  suffix_table_by_number (suc (suc order)) l = absurd (omega arith)
