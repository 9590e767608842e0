-- Positions marked from the span that holds them.
-- Assumes nothing.
use mathlib.Core.Path.{◌≡◌, ◌∙◌}
use mathlib.Core.List.{List}
use Prim.Native.Nat.{ℕ, ◌<◌, ◌≤◌}
use native.Mathlib.Omega.{arith}
use lib.ListN.{length, get_or, set}
use Rattle.words.specs.ValidArray.{Valid}
use Rattle.words.specs.ArrayForest.{end_of}
use Rattle.words.specs.Laws.ValidSpans.{Innermost, end_after, end_inside, ends_nest}
use Rattle.answer.specs.Content.{Kept, Stored}
use Rattle.answer.specs.ContentLaws.{stored}

-- Marking from i has come to k: the positions below k whose innermost span is that of i hold v, the others what they held.
pub record Marking (a : List ℕ) (i v k : ℕ) (before now : List ℕ) : Type 0 where
  pub after : i < k
  pub reached : k ≤ end_of a i
  pub closed : (m : ℕ) → i < m → m < k → end_of a m ≤ k
  pub inner : (j : ℕ) → j < k → Innermost a j j i → get_or now j 0 ≡ v
  pub others : Kept (λ j. Innermost a j j i → k ≤ j) before now

module _ (a : List ℕ) (valid : Valid a) (i v : ℕ) (h : i < length a) (before : List ℕ) where
  -- One position more is marked.
  pub marking_goes_on : (k end next : ℕ) (now : List ℕ) → Marking a i v k before now → end ≡ end_of a i → k < end → length before ≡ length a
      → next ≡ end_of a k → Marking a i v next before (set now k v)
  marking_goes_on k end next now w e l room f =
      let inside : k < length a = omega (arith, end_inside a valid i h) in
      let rises : k < end_of a k = end_after a valid k inside in
      let ends : end_of a k ≤ length a = end_inside a valid k inside in
      let nests : end_of a k ≤ end_of a i = ends_nest a valid i k inside w.after (omega arith) in
      let here : Innermost a k k i = record { below = w.after; holds = omega arith; last = w.closed } in
      let s : Stored k v now (set now k v) = stored now k v (omega (arith, w.others.size)) in
      record {
        after = omega (arith, w.after);
        reached = omega arith;
        closed = λ m p q. grind (arith, w.closed m p, ends_nest a valid k m);
        inner = λ j p m. grind (arith, w.inner j, m.last k, s.here, s.others.kept j);
        others = record { size = s.others.size ∙ w.others.size; kept = λ j m. grind (arith, m, here, w.others.kept j, s.others.kept j) };
      }
