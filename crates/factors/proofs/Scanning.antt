-- What holds at each turn of the scan's loop.
-- Assumes nothing.
use mathlib.Core.Path.{◌≡◌, sym, ap, ◌∙◌}
use mathlib.Core.List.{List}
use Prim.Native.Nat.{ℕ, suc, ◌+◌, ◌-◌, ◌<◌, ◌≤◌}
use native.Mathlib.Omega.{arith}
use lib.ListN.{length}
use Rattle.std.specs.declared.cmp.Ordering.{Ordering}
use Rattle.std.specs.declared.cmp.Ordering.TheVariants.{Less, Equal, Greater}
use Rattle.words.specs.Letters.{Letters}
use Rattle.words.specs.Decided.{Decided}
use Rattle.letters.specs.Compared.{comparison_of}
use Rattle.letters.proofs.Answers.{is_below, is_same, is_above}
use Rattle.factors.specs.declared.scan.Stretch.{Stretch}
use Rattle.factors.specs.Duval.{scan_from, scan_of}
use Rattle.factors.specs.DuvalSteps.{stretch_of, Bounded, answer_at, scan_end, scan_below, scan_same, scan_above}

module _ {O : Letters {0, 0} ℕ} (D : Decided O) (x : List ℕ) (start : ℕ) where
  -- The scan after `asked` comparisons has read s and made q comparisons: what it will find from there is what it finds.
  abbrev OnTheWay : ℕ → Stretch → ℕ → Type 0
  OnTheWay asked s q = scan_from D 0 x (length x - s.end) start s.period s.end q ≡ scan_of D 0 x start asked

  -- The scan from `start` has read s.
  pub record Scanning (s : Stretch) : Type 0 where
    pub bounded : Bounded (length x) start s
    pub rest : (asked : ℕ) → (q : ℕ) × OnTheWay asked s q

  pub scanning_start : start < length x → Scanning (record { period = 1; end = start + 1 })
  scanning_start l =
      let e : suc start ≡ start + 1 = omega arith in
      record {
        bounded = record { positive = omega arith; whole = omega arith; inside = omega arith };
        rest = λ asked. (asked, rw e);
      }

  module _ (s : Stretch) (w : Scanning s) where
    module _ (l : s.end < length x) {r : Ordering} (e : r ≡ comparison_of (answer_at D 0 x s.period s.end)) where
      -- A smaller letter stops the scan.
      pub scanning_below : r ≡ Less → (asked : ℕ) → s ≡ stretch_of (scan_of D 0 x start asked)
      scanning_below f asked =
          let k = w.rest asked in
          ap stretch_of (sym (scan_below D 0 x start s.period s.end k.0 l (is_below (answer_at D 0 x s.period s.end) (sym e ∙ f))) ∙ k.1)

      -- An equal letter continues the period.
      pub scanning_same : r ≡ Equal → Scanning (record { period = s.period; end = s.end + 1 })
      scanning_same f =
          record {
            bounded = record { positive = w.bounded.positive; whole = omega (arith, w.bounded); inside = omega arith };
            rest =
                λ asked. let k = w.rest asked in
                (k.0 + 1, sym (scan_same D 0 x start s.period s.end k.0 l (is_same (answer_at D 0 x s.period s.end) (sym e ∙ f))) ∙ k.1);
          }

      -- A greater letter makes all that was read the period.
      pub scanning_above : r ≡ Greater → Scanning (record { period = s.end + 1 - start; end = s.end + 1 })
      scanning_above f =
          record {
            bounded = record { positive = omega (arith, w.bounded); whole = omega (arith, w.bounded); inside = omega arith };
            rest =
                λ asked. let k = w.rest asked in
                (k.0 + 1, sym (scan_above D 0 x start s.period s.end k.0 l (is_above (answer_at D 0 x s.period s.end) (sym e ∙ f))) ∙ k.1);
          }

    -- The end of the text stops the scan.
    pub scanning_end : {n : ℕ} → n ≡ length x → n ≤ s.end → (asked : ℕ) → record { period = s.period; end = n } ≡ stretch_of (scan_of D 0 x start asked)
    scanning_end {n = n} e l asked =
        let k = w.rest asked in
        let f : n ≡ s.end = omega (arith, w.bounded.inside) in
        rw f (ap stretch_of (sym (scan_end D 0 x start s.period s.end k.0 (omega arith)) ∙ k.1))
