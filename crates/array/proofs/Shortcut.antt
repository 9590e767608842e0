-- Where the word is a prefix of the factor, what is remembered of the factor tells how far they agree.
-- Assumes nothing.
use mathlib.Core.Path.{◌≡◌, subst, sym, ap, ◌∙◌}
use Prim.Native.Nat.{ℕ, ◌+◌, ◌<◌, ◌≤◌, ◌-◌}
use native.Mathlib.Omega.{arith}
use Rattle.words.specs.Laws.NextSmaller.{next_lyndon}
use Rattle.words.specs.Laws.Position.{Agree, BelowWithin, SpanLyndon}
use Rattle.words.specs.Laws.SuffixOrder.{NextSmaller, agree_join}
use Rattle.words.specs.Letters.{Letters}
use Rattle.array.proofs.Known.{Known, agreement_short}

module _ {ℓ κ} {A : Type ℓ} {O : Letters {ℓ, κ} A} {x : ℕ → A} {n : ℕ} {lam : ℕ → ℕ} (next : (t : ℕ) → t < n → NextSmaller O x n t (t + lam t)) where
  -- The word at i is a prefix of the factor at j, and that factor's last part starts where the prefix ends: what is known of the
  -- factor's agreement with that part holds behind the prefix.
  pub shortcut : {buf : ℕ → ℕ} {i j s : ℕ} (d : ℕ) → SpanLyndon O x i j → j < n → i + d ≡ j → Agree x i j d → Known x n lam buf j s → d ≤ s →
      d + buf (j + d) ≡ lam j → Agree x i j (d + s) × (d + s ≤ lam j)
  shortcut {i = i} {j} {s} d w l e g known h m =
      let q : 0 < d = omega (arith, w.non_empty) in
      let r : Agree x j (j + d) s = known.part_agree d q h (subst (λ (z : ℕ). d + z ≡ lam j) (known.inner d q h) m) apart in
      let b : j + d + s < j + lam j =
      agreement_short O x j (j + lam j) (j + d) s (next_lyndon O x n j (j + lam j) (next j l)) (omega arith) (omega (arith, known.short)) r in
      (agree_join x i j d s g (subst (λ (z : ℕ). Agree x z (j + d) s) (sym e) r), omega arith)
    where
      apart : (t : ℕ) → j < t → t < j + d → ¬ Agree x j t d
      apart t p q a =
          let v : ℕ = i + (t - j) in
          let b : BelowWithin O x i v j = w.below v (omega arith) (omega arith) in
          let o : ℕ = b.offset in
          let in_d : (t - j) + o < d = omega (arith, b.inside) in
          let c : x (j + o) ≡ x (i + o) = sym (g o (omega arith)) in
          let f : x (t + o) ≡ x (v + o) =
          let f₁ : t + o ≡ j + ((t - j) + o) = omega arith in
          let f₂ : v + o ≡ i + ((t - j) + o) = omega arith in
          ap x f₁ ∙ sym (g ((t - j) + o) in_d) ∙ sym (ap x f₂) in
          b.smaller.0 (sym c ∙ a o (omega arith) ∙ f)
