-- What the contracts of the calls say by the published definitions: texts of 1 to 1,048,576 letters are accepted, what is then in the buffer,
-- and how many comparisons the factor list tells at most.
-- Assumes nothing.
use Rattle.std.specs.Prelude.{◌≡◌, refl, true, List, ℕ, ◌+◌, ◌*◌, ◌<◌, ◌≤◌, length, take, drop}
use Rattle.std.proofs.Common.{sym, ap, subst, ◌∙◌, arith}
use Rattle.words.specs.Letters.{rising, order_of}
use Rattle.words.specs.Decided.{decided_order}
use Rattle.words.specs.Factorization.{IsFactorization}
use Rattle.words.specs.SuffixTable.{IsSuffixTable}
use Rattle.words.specs.Compute.Factorization.{factorization_of_holds}
use Rattle.words.specs.Compute.SuffixTable.{suffix_table_of_holds}
use Rattle.answer.specs.declared.Answer.{Answer}
use Rattle.answer.specs.Answers.{accepted_with, accepted_after, comparisons}
use Rattle.answer.specs.AfterCall.{content_after}
use Rattle.answer.specs.Limits.{Sized, ranked_order, table_length}
use Rattle.answer.specs.AfterLaws.{written_first, written_rest}
use Rattle.checks.specs.Checks.{uses_table}
use Rattle.checks.specs.CheckLaws.{text_passes, ranked_text_as}
use Rattle.letters.specs.Ranks.{direction_of, row_in}
use Rattle.letters.specs.RankLaws.{row_in_length}
use Rattle.letters.specs.Default.{default_table, default_row}
use Rattle.letters.specs.DefaultLaws.{default_length, default_text_checks}
use Rattle.factors.specs.DuvalCount.{duval_at_most}
use Rattle.factors.specs.Answers.{default_factors, default_comparisons, default_suffix_table, factorization_answer, suffix_table_answer}
use Rattle.factors.specs.Answers.{factors_in, scan_comparisons, suffix_table_in}
use Rattle.factors.specs.Answers.{factorization_ranked_answer, suffix_table_ranked_answer}

-- What `factorization` leaves in its buffer, by its contract.
abbrev pub starts_after : List ℕ → List ℕ → List ℕ
starts_after x out = content_after (factorization_answer x (length out)) (default_factors x) out

-- What `suffix_table` leaves in its buffer, by its contract.
abbrev pub table_after : List ℕ → List ℕ → List ℕ
table_after x out = content_after (suffix_table_answer x (length out)) (default_suffix_table x) out

-- What `factorization_ranked` leaves in its buffer, by its contract.
abbrev pub factors_ranked_after : ℕ → List ℕ → List ℕ → List ℕ → List ℕ
factors_ranked_after order table x out = content_after (factorization_ranked_answer order table x (length out)) (factors_in order table x) out

-- What `suffix_table_ranked` leaves in its buffer, by its contract.
abbrev pub suffix_table_ranked_after : ℕ → List ℕ → List ℕ → List ℕ → List ℕ
suffix_table_ranked_after order table x out = content_after (suffix_table_ranked_answer order table x (length out)) (suffix_table_in order table x) out

-- The calls without an order are the ranked calls in order 2 by the table of the default order (document 02, E12): answer and buffer, for every
-- text, also one that is refused, and every buffer.
module _ (x out : List ℕ) where
  pub factorization_default :
      (factorization_answer x (length out) ≡ factorization_ranked_answer 2 default_table x (length out)) ×
      (starts_after x out ≡ factors_ranked_after 2 default_table x out)
  factorization_default =
      let answer : factorization_answer x (length out) ≡ factorization_ranked_answer 2 default_table x (length out) =
      default_text_checks (length x) (length out) (accepted_after (length (default_factors x)) (default_comparisons x)) in
      (answer, ap (λ (r : Answer). content_after r (default_factors x) out) answer)

  pub suffix_table_default :
      (suffix_table_answer x (length out) ≡ suffix_table_ranked_answer 2 default_table x (length out)) ×
      (table_after x out ≡ suffix_table_ranked_after 2 default_table x out)
  suffix_table_default =
      let answer : suffix_table_answer x (length out) ≡ suffix_table_ranked_answer 2 default_table x (length out) =
      default_text_checks (length x) (length out) (accepted_with (length x)) in
      (answer, ap (λ (r : Answer). content_after r (default_suffix_table x) out) answer)

-- One buffer that is long enough.
module _ (x : List ℕ) (sized : Sized (length x)) (out : List ℕ) (room : length x ≤ length out) where
  -- An order number of the ranked calls, and a table that has 256 entries where it is used.
  module _ (order : ℕ) (table : List ℕ) (named : order ≤ ranked_order) (fits : uses_table order ≡ true → length table ≡ table_length) where
    -- `factorization_ranked` refuses no text; the count is the number of factors, the comparisons are those of Duval's scan.
    pub factorization_ranked_accepts :
        factorization_ranked_answer order table x (length out) ≡ accepted_after (length (factors_in order table x)) (scan_comparisons order table x)
    factorization_ranked_accepts =
        ranked_text_as (length x) _ order (length table) named fits (length out) ∙ text_passes (length x) sized _ (length out) room

    -- They are fewer than 2 × n, at most 2 × n − 2 (document 02, E7): in order 2 those of the row of ranks.
    pub factorization_ranked_compared :
        let q = comparisons (factorization_ranked_answer order table x (length out)) in (q < 2 * length x) × (q + 2 ≤ 2 * length x)
    factorization_ranked_compared =
        let y = row_in order table x in
        let e = ap comparisons factorization_ranked_accepts in
        let n = row_in_length order table x in
        let l = duval_at_most (decided_order (direction_of order)) 0 y (omega (arith, sized.some, n)) in
        (omega (arith, e, n, l), omega (arith, e, n, l))

    -- As many places as there are factors hold their starts: in order 2 those of the row of ranks.
    pub factorization_ranked_written :
        IsFactorization (order_of (direction_of order)) (row_in order table x) (take (length (factors_in order table x)) (factors_ranked_after order table x out))
    factorization_ranked_written =
        let l = factors_in order table x in
        rw (written_first (factorization_ranked_answer order table x (length out)) (length l) (length l) l out factorization_ranked_accepts refl)
        (factorization_of_holds (decided_order (direction_of order)) (row_in order table x))

    -- The others hold what they held before.
    pub factorization_ranked_rest :
        let k = length (factors_in order table x) in drop k (factors_ranked_after order table x out) ≡ drop k out
    factorization_ranked_rest =
        let l = factors_in order table x in
        written_rest (factorization_ranked_answer order table x (length out)) (length l) (length l) l out factorization_ranked_accepts refl

    -- `suffix_table_ranked` refuses no text; the count is n.
    pub suffix_table_ranked_accepts : suffix_table_ranked_answer order table x (length out) ≡ accepted_with (length x)
    suffix_table_ranked_accepts =
        ranked_text_as (length x) _ order (length table) named fits (length out) ∙ text_passes (length x) sized _ (length out) room

    is_table : IsSuffixTable (order_of (direction_of order)) (row_in order table x) (suffix_table_in order table x)
    is_table = suffix_table_of_holds (decided_order (direction_of order)) (row_in order table x)

    table_size : length (suffix_table_in order table x) ≡ length x
    table_size = is_table.size ∙ row_in_length order table x

    -- The first n places hold the Lyndon suffix table of the text: in order 2 that of the row of ranks.
    pub suffix_table_ranked_written :
        IsSuffixTable (order_of (direction_of order)) (row_in order table x) (take (length x) (suffix_table_ranked_after order table x out))
    suffix_table_ranked_written =
        let l = suffix_table_in order table x in
        rw (written_first (suffix_table_ranked_answer order table x (length out)) (length x) (length x) l out suffix_table_ranked_accepts table_size) is_table

    -- The others hold what they held before.
    pub suffix_table_ranked_rest : drop (length x) (suffix_table_ranked_after order table x out) ≡ drop (length x) out
    suffix_table_ranked_rest =
        let l = suffix_table_in order table x in
        written_rest (suffix_table_ranked_answer order table x (length out)) (length x) (length x) l out suffix_table_ranked_accepts table_size

  -- Likewise of the calls without an order.

  -- `factorization` refuses no text; the count is the number of factors, the comparisons are those of Duval's scan.
  pub factorization_accepts : factorization_answer x (length out) ≡ accepted_after (length (default_factors x)) (default_comparisons x)
  factorization_accepts = text_passes (length x) sized _ (length out) room

  -- They are fewer than 2 × n, at most 2 × n − 2 (document 02, E7).
  pub factorization_compared :
      let q = comparisons (factorization_answer x (length out)) in (q < 2 * length x) × (q + 2 ≤ 2 * length x)
  factorization_compared =
      subst (λ (r : Answer). (comparisons r < 2 * length x) × (comparisons r + 2 ≤ 2 * length x)) (sym (factorization_default x out).0)
      (factorization_ranked_compared 2 default_table (omega arith) (λ e. default_length))

  -- As many places as there are factors hold their starts: those of the row of ranks.
  pub factorization_written : IsFactorization rising (default_row x) (take (length (default_factors x)) (starts_after x out))
  factorization_written =
      subst (λ (l : List ℕ). IsFactorization rising (default_row x) (take (length (default_factors x)) l)) (sym (factorization_default x out).1)
      (factorization_ranked_written 2 default_table (omega arith) (λ e. default_length))

  -- The others hold what they held before.
  pub factorization_rest : let k = length (default_factors x) in drop k (starts_after x out) ≡ drop k out
  factorization_rest =
      ap (drop (length (default_factors x))) (factorization_default x out).1 ∙ factorization_ranked_rest 2 default_table (omega arith) (λ e. default_length)

  -- `suffix_table` refuses no text; the count is n.
  pub suffix_table_accepts : suffix_table_answer x (length out) ≡ accepted_with (length x)
  suffix_table_accepts = text_passes (length x) sized _ (length out) room

  -- The first n places hold the Lyndon suffix table of the row of ranks.
  pub suffix_table_written : IsSuffixTable rising (default_row x) (take (length x) (table_after x out))
  suffix_table_written =
      subst (λ (l : List ℕ). IsSuffixTable rising (default_row x) (take (length x) l)) (sym (suffix_table_default x out).1)
      (suffix_table_ranked_written 2 default_table (omega arith) (λ e. default_length))

  -- The others hold what they held before.
  pub suffix_table_rest : drop (length x) (table_after x out) ≡ drop (length x) out
  suffix_table_rest =
      ap (drop (length x)) (suffix_table_default x out).1 ∙ suffix_table_ranked_rest 2 default_table (omega arith) (λ e. default_length)
