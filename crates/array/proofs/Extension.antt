-- How far the suffixes at i and at the end of its word agree.
-- Assumes nothing.
use mathlib.Core.Path.{◌≡◌, subst, sym, ap, ◌∙◌}
use mathlib.Core.List.{List}
use Prim.Native.Nat.{ℕ, ◌+◌, ◌<◌, ◌≤◌, ◌-◌}
use native.Mathlib.Decide.{dec_lt}
use native.Mathlib.Omega.{arith}
use lib.ListN.{length, get_or, drop, length-drop}
use lib.Seq.{get_or-drop}
use Rattle.words.specs.Laws.SpanLyndon.{letters}
use Rattle.std.specs.declared.cmp.Ordering.{Ordering}
use Rattle.std.specs.declared.cmp.Ordering.TheVariants.{Greater}
use Rattle.agreement.specs.CommonPrefix.{common_prefix}
use Rattle.array.specs.Core.RunExtent.{StoppedAt, Exact, ExtendedTo}
use Rattle.agreement.specs.CommonPrefixLaws.{Agreement, common_prefix_agreement}

module _ (x buf : List ℕ) (i j k : ℕ) where
  -- The comparison has stopped at the end of the factor, and the letters behind it are measured.
  further_exact : StoppedAt x buf i j k Greater → j < length x → (r : ℕ) → r ≡ common_prefix (drop (i + k) x) (drop (j + k) x) →
      Exact x i j (k + r)
  further_exact w l r e =
      record {
        agree = λ t q. at t q (dec_lt t k);
        within = omega (arith, b, f.in_right, (w.agreeing l).within);
        stops = λ q z. f.differ (omega (arith, a, w.after)) (omega (arith, b)) (left ∙ z ∙ sym right);
      }
    where
      f : Agreement (drop (i + k) x) (drop (j + k) x) r
      f = subst (Agreement (drop (i + k) x) (drop (j + k) x)) (sym e) (common_prefix_agreement (drop (i + k) x) (drop (j + k) x))

      a : length (drop (i + k) x) ≡ length x - (i + k)
      a = length-drop (i + k) x

      b : length (drop (j + k) x) ≡ length x - (j + k)
      b = length-drop (j + k) x

      left : get_or (drop (i + k) x) r 0 ≡ letters 0 x (i + (k + r))
      left = get_or-drop (i + k) x r 0 ∙ (let z : i + k + r ≡ i + (k + r) = omega arith in ap (letters 0 x) z)

      right : get_or (drop (j + k) x) r 0 ≡ letters 0 x (j + (k + r))
      right = get_or-drop (j + k) x r 0 ∙ (let z : j + k + r ≡ j + (k + r) = omega arith in ap (letters 0 x) z)

      at : (t : ℕ) → t < k + r → Dec (t < k) → letters 0 x (i + t) ≡ letters 0 x (j + t)
      at t q (yes h) = (w.agreeing l).agree t h
      at t q (no h) =
          let u : i + k + (t - k) ≡ i + t = omega (arith, h) in
          let v : j + k + (t - k) ≡ j + t = omega (arith, h) in
          sym (ap (letters 0 x) u) ∙ sym (get_or-drop (i + k) x (t - k) 0) ∙ f.alike (t - k) (omega (arith, h)) ∙
          get_or-drop (j + k) x (t - k) 0 ∙ ap (letters 0 x) v

  -- Behind the factor, which agrees with the word as far as it goes, r more letters agree.
  module _ {n : ℕ} (stop : Ordering) (w : StoppedAt x buf i j k stop) (size : n ≡ length x) (l : j < n) (r : ℕ)
      (h : r ≡ common_prefix (drop (i + k) x) (drop (j + k) x)) where
    pub further_fits : k + r ≤ length x
    further_fits =
        let q : j < length x = omega arith in
        omega
        (arith, h, (common_prefix_agreement (drop (i + k) x) (drop (j + k) x)).in_right, length-drop (j + k) x, (w.agreeing q).within)

    pub extended_further : stop ≡ Greater → ExtendedTo x i j (k + r) stop
    extended_further e = subst (ExtendedTo x i j (k + r)) (sym e) (further_exact (subst (StoppedAt x buf i j k) e w) (omega arith) r h)
