-- Where the default order changes nothing (document 02, E12): for a text of bytes without a to z, or without the bytes 65 to 96, the calls
-- without an order are those of order 0, answer and buffer.
-- Assumes nothing.
use Rattle.std.specs.Prelude.{◌≡◌, refl, List, ℕ, ◌<◌, length, get_or}
use Rattle.std.proofs.Common.{sym, ap, ap₂}
use Rattle.words.specs.Letters.{rising}
use Rattle.words.specs.Decided.{decided_rising}
use Rattle.words.specs.Laws.OrderedAlike.{OrderedAlike}
use Rattle.words.specs.Laws.FormsAlike.{alike_factors, alike_table, alike_answers}
use Rattle.answer.specs.declared.Answer.{Answer}
use Rattle.answer.specs.Answers.{accepted_after}
use Rattle.answer.specs.AfterCall.{content_after}
use Rattle.answer.specs.Limits.{table_length}
use Rattle.checks.specs.Checks.{text_checked}
use Rattle.letters.specs.RankLaws.{bytes_inside}
use Rattle.letters.specs.Default.{default_row, Unmixed}
use Rattle.letters.specs.DefaultLaws.{default_alike}
use Rattle.factors.specs.Duval.{FactorList}
use Rattle.factors.specs.DuvalAlike.{duval_alike}
use Rattle.factors.specs.Answers.{default_factors, default_comparisons, default_suffix_table, factorization_answer, suffix_table_answer}
use Rattle.factors.specs.Answers.{factors_in, scan_comparisons, suffix_table_in, factorization_ranked_answer, suffix_table_ranked_answer}
use Rattle.factors.specs.Theorems.{starts_after, table_after, factors_ranked_after, suffix_table_ranked_after}

-- Order 0 does not look at the table t.
module _ (x : List ℕ) (bytes : (i : ℕ) → i < length x → get_or x i 0 < table_length) (unmixed : Unmixed x) (t out : List ℕ) where
  alike : OrderedAlike rising rising 0 0 x (default_row x)
  alike = default_alike x (bytes_inside x bytes) unmixed

  same_factors : default_factors x ≡ factors_in 0 t x
  same_factors = sym (alike_factors alike decided_rising decided_rising)

  same_comparisons : default_comparisons x ≡ scan_comparisons 0 t x
  same_comparisons =
      ap (λ (l : FactorList). l.comparisons)
      (sym (duval_alike decided_rising decided_rising 0 0 x (default_row x) alike.size (alike_answers alike decided_rising decided_rising)))

  same_table : default_suffix_table x ≡ suffix_table_in 0 t x
  same_table = sym (alike_table alike decided_rising decided_rising)

  pub factorization_unchanged :
      (factorization_answer x (length out) ≡ factorization_ranked_answer 0 t x (length out)) × (starts_after x out ≡ factors_ranked_after 0 t x out)
  factorization_unchanged =
      let answer : factorization_answer x (length out) ≡ factorization_ranked_answer 0 t x (length out) =
      ap₂ (λ (s : List ℕ) (q : ℕ). text_checked (length x) (length out) (accepted_after (length s) q)) same_factors same_comparisons in
      (answer, ap₂ (λ (r : Answer) (s : List ℕ). content_after r s out) answer same_factors)

  pub suffix_table_unchanged :
      (suffix_table_answer x (length out) ≡ suffix_table_ranked_answer 0 t x (length out)) × (table_after x out ≡ suffix_table_ranked_after 0 t x out)
  suffix_table_unchanged = (refl, ap (λ (l : List ℕ). content_after (suffix_table_answer x (length out)) l out) same_table)
