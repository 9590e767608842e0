-- A run by document 002's second condition: with the neighbour letter on either side the span has only larger periods. Document 01 says
-- that the neighbour does not continue period p.
-- Assumes nothing.
use Rattle.std.specs.Prelude.{◌≡◌, ◌↔◌, List, ℕ, suc, ◌+◌, ◌-◌, ◌<◌, ◌≤◌, length}
use Rattle.std.proofs.Common.{subst, arith}
use Rattle.std.proofs.Math.Decide.{dec_lt}
use Rattle.words.specs.Runs.{SameLetter, HasPeriod, Run}

-- The span from s to e has no period from 1 to p.
abbrev pub OnlyLarger {ℓ} : {A : Type ℓ} → List A → ℕ → ℕ → ℕ → Type ℓ
OnlyLarger x s e p = (q : ℕ) → 0 < q → q ≤ p → ¬ HasPeriod x s e q

-- A run as document 002 has it ("Runs (1)"): a span whose smallest period p has 2p ≤ its length, and that has larger periods with either
-- neighbour letter, where there is one.
pub record MaximalPeriodicity {ℓ} {A : Type ℓ} (x : List A) (s e p : ℕ) : Type ℓ where
  pub positive : 0 < p
  pub twice : s + (p + p) ≤ e
  pub inside : e ≤ length x
  pub period : HasPeriod x s e p
  pub smallest : (q : ℕ) → 0 < q → q < p → ¬ HasPeriod x s e q
  pub larger_left : (i : ℕ) → s ≡ suc i → OnlyLarger x i e p
  pub larger_right : e < length x → OnlyLarger x s (suc e) p

module _ {ℓ} {A : Type ℓ} (x : List A) (s e p : ℕ) where
  -- Both say the same.
  pub run_maximal : Run x s e p ↔ MaximalPeriodicity x s e p
  run_maximal = (
    λ r.
        record {
          positive = r.positive;
          twice = r.twice;
          inside = r.inside;
          period = r.period;
          smallest = r.smallest;
          larger_left = λ i h q pos l per. left r i h q pos l per (dec_lt q p);
          larger_right = λ h q pos l per. right r h q pos l per (dec_lt q p);
        },
    λ m.
        record {
          positive = m.positive;
          twice = m.twice;
          inside = m.inside;
          period = m.period;
          smallest = m.smallest;
          no_left =
              λ i h same.
              m.larger_left i h p m.positive (omega arith) (λ k l g. before m i h same k l g (dec_lt i k));
          no_right =
              λ i h inside same.
              m.larger_right inside p m.positive (omega arith) (λ k l g. behind m i h same k l g (dec_lt (k + p) e));
        },
  )
    where
      left : Run x s e p → (i : ℕ) → s ≡ suc i → (q : ℕ) → 0 < q → q ≤ p → HasPeriod x i e q → Dec (q < p) → ⊥
      left r i h q pos l per (yes w) = r.smallest q pos w (λ k a b. per k (omega arith) b)
      left r i h q pos l per (no w) =
          let t : q ≡ p = omega (arith, w) in
          r.no_left i h (subst (λ (z : ℕ). SameLetter x i (i + z)) t (per i (omega arith) (omega (arith, r.twice, r.positive))))

      right : Run x s e p → e < length x → (q : ℕ) → 0 < q → q ≤ p → HasPeriod x s (suc e) q → Dec (q < p) → ⊥
      right r h q pos l per (yes w) = r.smallest q pos w (λ k a b. per k a (omega arith))
      right r h q pos l per (no w) =
          let t : q ≡ p = omega (arith, w) in
          let i : ℕ = e - p in
          let f : i + q ≡ e = omega (arith, r.twice) in
          r.no_right i (omega (arith, r.twice)) h
          (subst (λ (z : ℕ). SameLetter x i z) f (per i (omega (arith, r.twice)) (omega (arith, r.twice))))

      before : MaximalPeriodicity x s e p → (i : ℕ) → s ≡ suc i → SameLetter x i (i + p) → (k : ℕ) → i ≤ k → k + p < e → Dec (i < k) → SameLetter x k (k + p)
      before m i h same k l g (yes w) = m.period k (omega arith) g
      before m i h same k l g (no w) =
          let t : i ≡ k = omega (arith, w) in
          subst (λ (z : ℕ). SameLetter x z (z + p)) t same

      behind : MaximalPeriodicity x s e p → (i : ℕ) → e ≡ i + p → SameLetter x i e → (k : ℕ) → s ≤ k → k + p < suc e → Dec (k + p < e) → SameLetter x k (k + p)
      behind m i h same k l g (yes w) = m.period k l w
      behind m i h same k l g (no w) =
          let t : i ≡ k = omega (arith, w) in
          let f : e ≡ k + p = omega (arith, w) in
          subst (λ (z : ℕ). SameLetter x k z) f (subst (λ (z : ℕ). SameLetter x z e) t same)
