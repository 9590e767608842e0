-- Search for the greatest or the least number that passes a test.
-- Assumes nothing.
use Rattle.std.specs.Prelude.{◌≡◌, refl, Bool, true, false, ℕ, zero, suc, ◌+◌, ◌<◌, ◌≤◌, T}
use Rattle.std.proofs.Common.{subst, arith}
use Rattle.std.proofs.Math.Option.{Option, none, some}

-- The greatest number below n that passes, 0 if none does.
abbrev pub greatest_below : (ℕ → Bool) → ℕ → ℕ
greatest_below p zero = 0
greatest_below p (suc k) = elim (p k) [ true ↦ k | false ↦ greatest_below p k ]

-- The first of the d numbers from i on that passes, if one does.
abbrev pub first_from : (ℕ → Bool) → ℕ → ℕ → Option ℕ
first_from p i zero = none
first_from p i (suc d) = elim (p i) [ true ↦ some i | false ↦ first_from p (suc i) d ]

-- The number found, or m.
abbrev pub found_or : ℕ → Option ℕ → ℕ
found_or m none = m
found_or m (some k) = k

-- The least number that passes of i and the d numbers after it, i + d if none before it does.
abbrev pub least_from : (ℕ → Bool) → ℕ → ℕ → ℕ
least_from p i d = found_or (i + d) (first_from p i d)

-- k is the greatest number below n that passes.
pub record GreatestBelow (p : ℕ → Bool) (n k : ℕ) : Type 0 where
  pub below : k < n
  pub passes : T (p k)
  pub greatest : (j : ℕ) → k < j → j < n → ¬ T (p j)

-- k is the least number from i on that passes.
pub record LeastFrom (p : ℕ → Bool) (i k : ℕ) : Type 0 where
  pub reached : i ≤ k
  pub passes : T (p k)
  pub least : (j : ℕ) → i ≤ j → j < k → ¬ T (p j)

-- A number below n that passes is at most the greatest.
pub at_most_greatest : {p : ℕ → Bool} {n k : ℕ} → GreatestBelow p n k → (j : ℕ) → j < n → T (p j) → j ≤ k
at_most_greatest {k = k} g j h t =
    let d : ¬ (k < j) = λ a. g.greatest j a h t in
    omega arith

-- The least is at most any number from i on that passes.
pub least_at_most : {p : ℕ → Bool} {i k : ℕ} → LeastFrom p i k → (j : ℕ) → i ≤ j → T (p j) → k ≤ j
least_at_most {k = k} g j h t =
    let d : ¬ (j < k) = λ a. g.least j h a t in
    omega arith

-- A number that passes is none that fails.
passes_differs : (p : ℕ → Bool) (i k : ℕ) → T (p i) → p k ≡ false → ¬ (i ≡ k)
passes_differs p i k t e q = subst T e (subst (λ (m : ℕ). T (p m)) q t)

-- Where some number below n passes, the greatest is found.
pub greatest_below_holds : (p : ℕ → Bool) (n j : ℕ) → j < n → T (p j) → GreatestBelow p n (greatest_below p n)
greatest_below_holds p zero j h t = absurd (omega arith)
greatest_below_holds p (suc k) j h t = go (p k) refl (greatest_below_holds p k j)
  where
    go : (b : Bool) → p k ≡ b → (j < k → T (p j) → GreatestBelow p k (greatest_below p k))
        → GreatestBelow p (suc k) (elim b [ true ↦ k | false ↦ greatest_below p k ])
    go true e r =
        record { below = omega arith; passes = rw e tt; greatest = λ i a c. absurd (omega arith) }
    go false e r =
        let g : GreatestBelow p k (greatest_below p k) = r (omega (arith, passes_differs p j k t e)) t in
        record {
          below = omega arith;
          passes = g.passes;
          greatest = λ i a c q. g.greatest i a (omega (arith, passes_differs p i k q e)) q;
        }

-- What the answer of first_from says: the number is the first, or there is none.
abbrev pub FirstFrom : (ℕ → Bool) → ℕ → ℕ → Option ℕ → Type 0
FirstFrom p i d none = (k : ℕ) → i ≤ k → k < i + d → ¬ T (p k)
FirstFrom p i d (some m) = (m < i + d) × LeastFrom p i m

pub first_from_holds : (p : ℕ → Bool) (i d : ℕ) → FirstFrom p i d (first_from p i d)
first_from_holds p i zero = λ k h l t. omega arith
first_from_holds p i (suc d) = go (p i) refl (first_from p (suc i) d) (first_from_holds p (suc i) d)
  where
    go : (b : Bool) → p i ≡ b → (o : Option ℕ) → FirstFrom p (suc i) d o
        → FirstFrom p i (suc d) (elim b [ true ↦ some i | false ↦ o ])
    go true e o r =
        (omega arith, record { reached = omega arith; passes = rw e tt; least = λ k h l. absurd (omega arith) })
    go false e none r = λ k h l t. r k (omega (arith, passes_differs p k i t e)) (omega arith) t
    go false e (some m) r = (
      omega (arith, r.0),
      record {
        reached = omega (arith, r.1.reached);
        passes = r.1.passes;
        least = λ k h l t. r.1.least k (omega (arith, passes_differs p k i t e)) l t;
      },
    )

-- Where some number from i up to i + d passes, the least is found.
pub least_from_holds : (p : ℕ → Bool) (i d j : ℕ) → i ≤ j → j ≤ i + d → T (p j) → LeastFrom p i (least_from p i d)
least_from_holds p i d j h k t = go (first_from p i d) (first_from_holds p i d)
  where
    go : (o : Option ℕ) → FirstFrom p i d o → LeastFrom p i (found_or (i + d) o)
    go none f =
        let n : ¬ (j < i + d) = λ l. f j h l t in
        let e : j ≡ i + d = omega arith in
        record { reached = omega arith; passes = subst (λ (m : ℕ). T (p m)) e t; least = f }
    go (some m) f = f.1
