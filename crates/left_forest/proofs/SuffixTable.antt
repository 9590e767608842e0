-- What the call `suffix_table_ranked` leaves, where it accepts, in a buffer with room for the text, place by place.
-- Assumes nothing.
use mathlib.Core.Path.{◌≡◌, sym, ap, subst, ◌∙◌}
use mathlib.Core.List.{List}
use Prim.Native.Nat.{ℕ, ◌≤◌}
use native.Mathlib.Omega.{arith}
use lib.ListN.{length}
use Rattle.std.specs.Prelude.{Result, Ok}
use Rattle.words.specs.Letters.{order_of}
use Rattle.words.specs.Decided.{decided_order}
use Rattle.words.specs.SuffixTable.{IsSuffixTable, LongestTo}
use Rattle.words.specs.Compute.SuffixTable.{suffix_table_of_holds}
use Rattle.answer.specs.declared.Accepted.{Accepted}
use Rattle.answer.specs.declared.Refused.{Refused}
use Rattle.answer.specs.declared.Answer.{Answer}
use Rattle.answer.specs.AfterCall.{content_in, content_after}
use Rattle.answer.specs.ContentLaws.{written_value, written_kept}
use Rattle.letters.specs.Ranks.{direction_of, row_in}
use Rattle.letters.specs.RankLaws.{row_in_length}
use Rattle.factors.specs.Answers.{suffix_table_in}
use Rattle.factors.specs.Results.{AllTabled}

module _ (order : ℕ) (ranks x before after : List ℕ) (room : length x ≤ length before) {r : Answer} {a : Accepted} (accepts : r.outcome ≡ Ok a)
    (content : after ≡ content_after r (suffix_table_in order ranks x) before) where
  table : IsSuffixTable (order_of (direction_of order)) (row_in order ranks x) (suffix_table_in order ranks x)
  table = suffix_table_of_holds (decided_order (direction_of order)) (row_in order ranks x)

  -- Each entry is there, and each place past the text is as before.
  pub suffix_table_tabled : AllTabled (order_of (direction_of order)) (row_in order ranks x) before after
  suffix_table_tabled =
      subst (λ (l : List ℕ). AllTabled (order_of (direction_of order)) (row_in order ranks x) before l)
      (sym (content ∙ ap (λ (o : Result Accepted Refused). content_in o (suffix_table_in order ranks x) before) accepts))
      (record {
        entry =
            λ t l.
            subst (LongestTo (order_of (direction_of order)) (row_in order ranks x) t)
            (sym (written_value (suffix_table_in order ranks x) before t (omega (arith, table.size)))) (table.entry t l);
        others =
            written_kept (suffix_table_in order ranks x) before (length (row_in order ranks x)) table.size
            (omega (arith, row_in_length order ranks x, room));
      })
