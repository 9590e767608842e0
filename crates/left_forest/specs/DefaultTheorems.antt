-- Where the default order changes nothing (document 02, E12): for a text of bytes without a to z, or without the bytes 65 to 96, the call
-- without an order is that of order 0, answer and both buffers.
-- Assumes nothing.
use Rattle.std.specs.Prelude.{◌≡◌, refl, List, ℕ, ◌<◌, length, get_or}
use Rattle.std.proofs.Common.{sym, ap}
use Rattle.words.specs.Decided.{decided_rising}
use Rattle.words.specs.Laws.FormsAlike.{alike_left_lists}
use Rattle.answer.specs.AfterCall.{content_after}
use Rattle.answer.specs.Limits.{table_length}
use Rattle.letters.specs.RankLaws.{bytes_inside}
use Rattle.letters.specs.Default.{Unmixed}
use Rattle.letters.specs.DefaultLaws.{default_alike}
use Rattle.left_forest.specs.Answers.{left_forest_answer, left_forest_ranked_answer}
use Rattle.left_forest.specs.Theorems.{left_first_after, left_past_after, left_first_ranked_after, left_past_ranked_after}

-- Order 0 does not look at the table t.
pub left_forest_unchanged : (x : List ℕ) → ((i : ℕ) → i < length x → get_or x i 0 < table_length) → Unmixed x → (t first past : List ℕ) →
    (left_forest_answer x (length first) (length past) ≡ left_forest_ranked_answer 0 t x (length first) (length past)) ×
    (left_first_after x first past ≡ left_first_ranked_after 0 t x first past) × (left_past_after x first past ≡ left_past_ranked_after 0 t x first past)
left_forest_unchanged x bytes unmixed t first past =
    let same = alike_left_lists (default_alike x (bytes_inside x bytes) unmixed) decided_rising decided_rising in
    let answer = left_forest_answer x (length first) (length past) in (
      refl,
      ap (λ (l : List ℕ). content_after answer l first) (sym same.0),
      ap (λ (l : List ℕ). content_after answer l past) (sym same.1),
    )
