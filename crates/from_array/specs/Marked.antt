-- Which positions are marked from the span that holds them.
-- Assumes nothing.
use Rattle.std.specs.Prelude.{◌≡◌, List, ℕ, get_or}
use Rattle.words.specs.Laws.ValidSpans.{Innermost}
use Rattle.answer.specs.Content.{Kept}

-- The positions whose innermost span is that of i hold v, all else is as before.
pub record Marked (a : List ℕ) (i v : ℕ) (before after : List ℕ) : Type 0 where
  pub inner : (j : ℕ) → Innermost a j j i → get_or after j 0 ≡ v
  pub others : Kept (λ j. ¬ Innermost a j j i) before after
