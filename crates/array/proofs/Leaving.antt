-- The factor after the word is not joined: the word ends at its next smaller suffix.
-- Assumes nothing.
use mathlib.Core.Path.{◌≡◌, sym, ap, ◌∙◌}
use mathlib.Core.Logic.{◌⊎◌, inl, inr}
use Prim.Native.Nat.{ℕ, ◌+◌, ◌<◌, ◌≤◌, ◌-◌}
use native.Mathlib.Omega.{arith}
use Rattle.words.specs.Laws.Compared.{AllCompared, suffix_compare}
use Rattle.words.specs.Laws.NextSmaller.{empty_suffix_less, next_lyndon, lyndon_next, suffix_less}
use Rattle.words.specs.Laws.Position.{Agree, SpanLyndon, SpanLess, differs, shorter}
use Rattle.words.specs.Laws.SuffixOrder.{SuffixLess, parts, NextSmaller, agree_sym}
use Rattle.words.specs.Letters.{Letters, Smaller}
use Rattle.array.proofs.Known.{agreement_short}

-- The factor at j is not smaller than the word before it: their first different letters say so.
pub leave_letter {ℓ κ} : {A : Type ℓ} {O : Letters {ℓ, κ} A} {x : ℕ → A} {n i j : ℕ} (k : ℕ) → SpanLyndon O x i j → j + k < n → Agree x i j k →
    Smaller O (x (j + k)) (x (i + k)) → NextSmaller O x n i j
leave_letter {O = O} {x} {n} {i} {j} k w l g s =
    lyndon_next O x n i j w (omega arith)
    (parts k l (omega (arith, w.non_empty)) (agree_sym x i j k g) s)

-- Nothing is left to join.
pub leave_end {ℓ κ} : {A : Type ℓ} {O : Letters {ℓ, κ} A} {x : ℕ → A} {n : ℕ} {i : ℕ} → SpanLyndon O x i n → NextSmaller O x n i n
leave_end {O = O} {x} {n} {i} w = lyndon_next O x n i n w (omega arith) (empty_suffix_less O x n i w.non_empty)

module _ {ℓ κ} {A : Type ℓ} {O : Letters {ℓ, κ} A} {x : ℕ → A} {n : ℕ} (lam : ℕ → ℕ) (next : (t : ℕ) → t < n → NextSmaller O x n t (t + lam t)) where
  -- The factor at j is a prefix of the word before it, or equal to it: they are not joined.
  pub leave_prefix : {i j : ℕ} → AllCompared O x n → SpanLyndon O x i j → j < n → i + lam j ≤ j → Agree x i j (lam j) → NextSmaller O x n i j
  leave_prefix {i} {j} compared w l h g =
      lyndon_next O x n i j w (omega arith)
      (go (suffix_compare O x n compared i j (omega (arith, w.non_empty)) (omega arith) (λ e. omega (arith, w.non_empty))))
    where
      refuted : SpanLess O x i j j (j + lam j) → SuffixLess O x n j i
      refuted (differs d p q a s) = absurd (s.0 (g d (omega arith)))
      refuted (shorter d p q a) = absurd (omega arith)

      go : SuffixLess O x n i j ⊎ SuffixLess O x n j i → SuffixLess O x n j i
      go (inr s) = s
      go (inl s) = refuted (suffix_less O x n i j (j + lam j) w (next j l) s)

  -- A word that is a proper prefix of the factor after it does not agree with all of that factor.
  pub never_past : (i j d : ℕ) → j < n → i + d ≡ j → 0 < d → d < lam j → ¬ Agree x i j (lam j)
  never_past i j d l e p q g =
      let c : (j + d) + (lam j - d) < j + lam j =
      agreement_short O x j (j + lam j) (j + d) (lam j - d) (next_lyndon O x n j (j + lam j) (next j l)) (omega arith) (omega arith) periodic in
      omega arith
    where
      periodic : Agree x j (j + d) (lam j - d)
      periodic t h =
          let a : j + t ≡ i + (d + t) = omega arith in
          let b : j + d + t ≡ j + (d + t) = omega arith in
          ap x a ∙ g (d + t) (omega arith) ∙ sym (ap x b)
