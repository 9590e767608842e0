-- A function that takes the numbers below n to different numbers below n takes every number below n.
-- Assumes nothing.
use Rattle.std.specs.Prelude.{◌≡◌, refl, Bool, true, false, ℕ, zero, suc, ◌-◌, ◌<◌, ltb}
use Rattle.std.proofs.Common.{arith, ltb-true, ltb-false}
use Rattle.std.proofs.Math.Decide.{dec_lt, ℕ_discrete}

-- f takes the numbers below k to different numbers below n.
pub record Injects (f : ℕ → ℕ) (k n : ℕ) : Type 0 where
  pub below : (i : ℕ) → i < k → f i < n
  pub different : (i j : ℕ) → i < k → j < k → f i ≡ f j → i ≡ j

-- The numbers other than v, moved together.
abbrev without : ℕ → ℕ → ℕ
without v w = elim (ltb v w) [ true ↦ w - 1 | false ↦ w ]

record Without (v w r : ℕ) : Type 0 where
  above : v < w → w ≡ suc r
  same : w < v → w ≡ r

without_is : (v w : ℕ) → Without v w (without v w)
without_is v w = go (ltb v w) refl
  where
    go : (b : Bool) → ltb v w ≡ b → Without v w (elim b [ true ↦ w - 1 | false ↦ w ])
    go true e = let h : v < w = ltb-true v w e in record { above = λ p. omega arith; same = λ p. absurd (omega arith) }
    go false e = record { above = λ p. absurd (omega (arith, ltb-false v w e)); same = λ p. refl }

without_below : (v w r n : ℕ) → Without v w r → v < suc n → w < suc n → ¬ (v ≡ w) → r < n
without_below v w r n h p q d = go (dec_lt v w)
  where
    go : Dec (v < w) → r < n
    go (yes l) = omega (arith, h.above l)
    go (no l) = omega (arith, l, d, h.same (omega (arith, l, d)))

without_different : (v w w' r r' : ℕ) → Without v w r → Without v w' r' → ¬ (v ≡ w) → ¬ (v ≡ w') → r ≡ r' → w ≡ w'
without_different v w w' r r' h h' d d' e = go (dec_lt v w) (dec_lt v w')
  where
    go : Dec (v < w) → Dec (v < w') → w ≡ w'
    go (yes l) (yes m) = omega (arith, h.above l, h'.above m)
    go (yes l) (no m) = absurd (omega (arith, h.above l, h'.same (omega (arith, m, d')), m))
    go (no l) (yes m) = absurd (omega (arith, h'.above m, h.same (omega (arith, l, d)), l))
    go (no l) (no m) = omega (arith, h.same (omega (arith, l, d)), h'.same (omega (arith, m, d')))

-- Where v is not among the values, one value fewer is enough.
one_fewer : (f : ℕ → ℕ) (k n v : ℕ) → v < suc n → ((i : ℕ) → i < k → ¬ (v ≡ f i)) → Injects f k (suc n) → Injects (λ i. without v (f i)) k n
one_fewer f k n v p d h =
    record {
      below = λ i l. without_below v (f i) (without v (f i)) n (without_is v (f i)) p (h.below i l) (d i l);
      different =
          λ i j l m e.
          h.different i j l m
          (without_different v (f i) (f j) (without v (f i)) (without v (f j)) (without_is v (f i)) (without_is v (f j)) (d i l) (d j m) e);
    }

-- More numbers than values do not inject.
no_injection : (n : ℕ) (f : ℕ → ℕ) → ¬ Injects f (suc n) n
no_injection zero f h = omega (arith, h.below 0 (omega arith))
no_injection (suc n) f h =
    no_injection n (λ i. without (f (suc n)) (f i))
    (one_fewer f (suc n) n (f (suc n)) (h.below (suc n) (omega arith))
    (λ i l e. omega (arith, h.different (suc n) i (omega arith) (omega arith) e))
    (record { below = λ i l. h.below i (omega arith); different = λ i j l m. h.different i j (omega arith) (omega arith) }))

-- v is the value at a number below k, or at none.
found_or_none : (f : ℕ → ℕ) (v k : ℕ) → Dec ((i : ℕ) × (i < k) × (f i ≡ v))
found_or_none f v zero = no (λ s. omega (arith, s.1))
found_or_none f v (suc k) = go (ℕ_discrete (f k) v) (found_or_none f v k)
  where
    go : Dec (f k ≡ v) → Dec ((i : ℕ) × (i < k) × (f i ≡ v)) → Dec ((i : ℕ) × (i < suc k) × (f i ≡ v))
    go (yes e) r = yes (k, omega arith, e)
    go (no e) (yes s) = yes (s.0, omega (arith, s.1), s.2)
    go (no e) (no n) = no (λ s. at s (dec_lt s.0 k))
      where
        at : (s : (i : ℕ) × (i < suc k) × (f i ≡ v)) → Dec (s.0 < k) → ⊥
        at s (yes l) = n (s.0, l, s.2)
        at s (no l) = let z : s.0 ≡ k = omega (arith, l, s.1) in e (rw z at s.2)

-- Every number below n is a value.
pub takes_all : (f : ℕ → ℕ) (n : ℕ) → Injects f n n → (v : ℕ) → v < n → (i : ℕ) × (i < n) × (f i ≡ v)
takes_all f zero h v l = absurd (omega arith)
takes_all f (suc n) h v l = go (found_or_none f v (suc n))
  where
    go : Dec ((i : ℕ) × (i < suc n) × (f i ≡ v)) → (i : ℕ) × (i < suc n) × (f i ≡ v)
    go (yes s) = s
    go (no d) =
        absurd
        (no_injection n (λ i. without v (f i))
        (one_fewer f (suc n) n v l (λ i m e. d (i, m, omega arith)) h))
