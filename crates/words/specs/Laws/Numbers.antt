-- Properties of numbers: the least number that has one, what holds of all numbers below a bound, and tests that say the same.
-- Assumes nothing.
use Rattle.std.specs.Prelude.{◌≡◌, ℕ, suc, ◌<◌, ◌≤◌, ltb}
use Rattle.std.proofs.Common.{sym, subst, ◌∙◌, arith, lt-ltb, le-ltb}
use Rattle.std.proofs.Math.Decide.{dec_lt}

-- At most one number is the least at which P holds.
pub least_unique {ℓ} : (P : ℕ → Type ℓ) {i j : ℕ} → P i → ((k : ℕ) → k < i → ¬ P k) → P j → ((k : ℕ) → k < j → ¬ P k) → i ≡ j
least_unique P {i} {j} p below_i q below_j =
    let low : ¬ (i < j) = λ l. below_j i l p in
    let high : ¬ (j < i) = λ l. below_i j l q in
    omega arith

-- What holds below i, and at i, holds below i + 1.
pub below_suc {ℓ} : (P : ℕ → Type ℓ) (i : ℕ) → ((k : ℕ) → k < i → P k) → P i → (k : ℕ) → k < suc i → P k
below_suc P i below at k h = go (dec_lt k i)
  where
    go : Dec (k < i) → P k
    go (yes l) = below k l
    go (no n) = subst P (omega (arith, n)) at

-- Tests that say the same are equal.
pub ltb_alike : (a b c d : ℕ) → (a < b → c < d) → (b ≤ a → d ≤ c) → ltb a b ≡ ltb c d
ltb_alike a b c d f g = go (dec_lt a b)
  where
    go : Dec (a < b) → ltb a b ≡ ltb c d
    go (yes l) = lt-ltb a b l ∙ sym (lt-ltb c d (f l))
    go (no l) = le-ltb a b (omega arith) ∙ sym (le-ltb c d (g (omega arith)))
