-- The last place of a factor: its entry is 1, and with it back the factor is final.
-- Assumes nothing.
use mathlib.Core.Path.{◌≡◌, subst, sym, ap, ◌∙◌}
use Prim.Native.Nat.{ℕ, suc, ◌+◌, ◌<◌, ◌≤◌}
use native.Mathlib.Decide.{dec_lt, ℕ_discrete}
use native.Mathlib.Omega.{arith}
use Rattle.words.specs.Laws.NextSmaller.{next_nests}
use Rattle.words.specs.Laws.SuffixOrder.{NextSmaller}
use Rattle.words.specs.Letters.{Letters}
use Rattle.array.specs.Core.Rows.{Rows}
use Rattle.array.proofs.RowLaws.{Front, front}

module _ {ℓ κ} {A : Type ℓ} {O : Letters {ℓ, κ} A} {x : ℕ → A} {n : ℕ} (lam : ℕ → ℕ) (next : (t : ℕ) → t < n → NextSmaller O x n t (t + lam t)) where
  -- The entry of the last place of a factor is 1.
  last_place : (j t : ℕ) → j < n → suc t ≡ j + lam j → lam t ≡ 1
  last_place j t l e = go (ℕ_discrete t j)
    where
      go : Dec (t ≡ j) → lam t ≡ 1
      go (yes q) = ap lam q ∙ omega arith
      go (no q) =
          let p : j < t = omega (arith, q, (next j l).after) in
          let m : NextSmaller O x n t (t + lam t) = next t (omega (arith, (next j l).inside)) in
          let b : t + lam t ≤ j + lam j = next_nests O x n j (j + lam j) t (t + lam t) (next j l) p (omega arith) m in
          omega (arith, m.after)

module _ {ℓ κ} {A : Type ℓ} {O : Letters {ℓ, κ} A} {x : ℕ → A} {n : ℕ} {lam : ℕ → ℕ} (next : (t : ℕ) → t < n → NextSmaller O x n t (t + lam t)) where
  -- Once the last place of the factor at j has its entry back, all entries of the factor are final.
  pub restored_factor : {buf buf' : ℕ → ℕ} {j : ℕ} → j < n → Rows x n lam buf j → ((t : ℕ) → t < n → ¬ (suc t ≡ j + lam j) → buf' t ≡ buf t) →
      ((t : ℕ) → suc t ≡ j + lam j → buf' t ≡ 1) → (t : ℕ) → j ≤ t → t < j + lam j → buf' t ≡ lam t
  restored_factor {buf} {buf'} {j} l rows kept reset t p q = entry (ℕ_discrete (suc t) (j + lam j))
    where
      fr : Front x n lam buf j
      fr = front l rows

      inner : ¬ (suc t ≡ j + lam j) → Dec (j < t) → buf t ≡ lam t
      inner m (yes r) = (fr.remembered (omega (arith, m))).inner t r (omega (arith, m))
      inner m (no r) =
          let e : j ≡ t = omega (arith, r) in
          subst (λ (z : ℕ). buf z ≡ lam z) e fr.own

      entry : Dec (suc t ≡ j + lam j) → buf' t ≡ lam t
      entry (yes e) = reset t e ∙ sym (last_place lam next j t l e)
      entry (no e) = kept t (omega (arith, (next j l).inside)) e ∙ inner e (dec_lt j t)
