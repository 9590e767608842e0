-- The run whose last root starts at a position, or that there is none.
-- Assumes nothing.
use mathlib.Core.Path.{◌≡◌, refl, subst, sym, ap, ◌∙◌}
use mathlib.Core.Bool.{Bool, true, false}
use mathlib.Core.List.{List, [], ◌∷◌}
use Prim.Native.Nat.{ℕ, ◌+◌, ◌*◌, ◌<◌, ◌≤◌, ◌-◌}
use native.Mathlib.Omega.{arith}
use lib.ListN.{length}
use Rattle.std.specs.Prelude.{ltb}
use Rattle.std.proofs.Common.{ltb-false}
use borrow.Author.Tests.{ltb-true}
use Rattle.words.specs.Laws.Position.{Agree}
use Rattle.words.specs.Laws.RunExtent.{Extent, extent_from}
use Rattle.words.specs.Laws.RunMarks.{ListedEntry, end_bound, entry_listed, unlisted, run_entry}
use Rattle.words.specs.Laws.SpanLyndon.{letters}
use Rattle.words.specs.Laws.SuffixOrder.{NextSmaller}
use Rattle.words.specs.Letters.{rising}
use Rattle.answer.specs.Content.{Written}
use Rattle.array.specs.Core.RunExtent.{LeftExtent, AtRoot}
use Rattle.array.specs.Core.RunPass.{Listed, skipped, listed, RoomAt}

module _ (order : ℕ) (x list : List ℕ) (i j k s count : ℕ) (w : AtRoot x i j k) (left : LeftExtent x i (j - i) s) where
  goes_on : i + (j - i) ≡ j
  goes_on = omega (arith, w.next.after)

  next_at : NextSmaller rising (letters 0 x) (length x) i (i + (j - i))
  next_at = subst (λ (m : ℕ). NextSmaller rising (letters 0 x) (length x) i m) (sym goes_on) w.next

  -- How far the period goes around i.
  root_extent : Extent (letters 0 x) (length x) i s (j + k) (j - i)
  root_extent =
      subst (λ (e : ℕ). Extent (letters 0 x) (length x) i s e (j - i)) (ap (λ (m : ℕ). m + k) goes_on)
      (extent_from (letters 0 x) (length x) i (j - i) k s (omega (arith, goes_on, w.exact.within))
      (subst (λ (m : ℕ). Agree (letters 0 x) i m k) (sym goes_on) w.exact.agree)
      (λ q z.
      w.exact.stops (omega (arith, goes_on)) (z ∙ ap (λ (m : ℕ). letters 0 x (m + k)) goes_on)) left.low left.left left.left_stops)

  nothing : ¬ ((s + ((j - i) + (j - i)) ≤ j + k) × (j + k < i + ((j - i) + (j - i))) × (j + k < end_bound order (length x))) →
      Listed order x list list i count count
  nothing h =
      skipped refl refl
      (unlisted rising (letters 0 x) (length x) (end_bound order (length x)) i s (j + k) (j - i) next_at root_extent h)

  -- The period does not go on for two periods.
  pub too_short : i - s + k < j - i → Listed order x list list i count count
  too_short h = nothing (λ z. omega (arith, z.0, goes_on, left.low))

  -- It ends where this pass lists no run.
  pub not_here : {r : Bool} → r ≡ ltb (j + k) (end_bound order (length x)) → r ≡ false → Listed order x list list i count count
  not_here e f = nothing (λ z. omega (arith, z.2, ltb-false (j + k) (end_bound order (length x)) (sym e ∙ f)))

  -- Else i lists the run.
  module _ {r : Bool} (long : j - i ≤ i - s + k) (e : r ≡ ltb (j + k) (end_bound order (length x))) (t : r ≡ true) where
    lists_run : ListedEntry rising (letters 0 x) (length x) (end_bound order (length x)) i (run_entry s (j + k) (j - i))
    lists_run =
        entry_listed rising (letters 0 x) (length x) (end_bound order (length x)) i s (j + k) (j - i)
        (record {
          next = next_at;
          extent = root_extent;
          twice = omega (arith, goes_on, left.low);
          last = omega (arith, goes_on, w.short);
          early = ltb-true (j + k) (end_bound order (length x)) (sym e ∙ t);
        })

    -- There is room for it,
    pub run_fits : RoomAt order x list count i → 3 * count + 3 ≤ length list
    run_fits at = at.room (run_entry s (j + k) (j - i)) lists_run

    -- and written, it is listed.
    pub run_found : {after : List ℕ} {m : ℕ} → m ≡ count + 1 → Written list after (3 * count) (3 * m) (s ∷ (j + k - 1) ∷ (j - i) ∷ []) →
        Listed order x list after i count m
    run_found m e = listed (run_entry s (j + k) (j - i)) lists_run m e
