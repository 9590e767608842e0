-- Where the letters of a text are compared, suffixes are compared and every position has its next smaller suffix. That finitely many
-- letters are compared cannot be refuted, so what speaks of numbers alone holds without it.
-- Assumes nothing.
use Rattle.std.specs.Prelude.{◌≡◌, ◌⊎◌, List, ℕ, zero, suc, ◌+◌, ◌<◌, ◌≤◌, length, get_or}
use Rattle.std.proofs.Common.{ap, subst, inl, inr, arith, ext_get_or}
use Rattle.std.proofs.Math.Decide.{dec_lt, ℕ_discrete}
use Rattle.words.specs.Letters.{Letters}
use Rattle.words.specs.Decided.{Comparison, below, same, above, Means, Decided}
use Rattle.words.specs.Laws.Numbers.{below_suc}
use Rattle.words.specs.Laws.Letters.{Compared, compared_irrefutable}
use Rattle.words.specs.Laws.Position.{Agree, SpanLyndon}
use Rattle.words.specs.Laws.SuffixOrder.{SuffixLess, ends, parts, NextSmaller, agree_sym}
use Rattle.words.specs.Laws.NextSmaller.{empty_suffix_less, next_lyndon, lyndon_before_next}

-- The letters at any two positions below n are compared.
abbrev pub AllCompared {ℓ κ} : {A : Type ℓ} → Letters {ℓ, κ} A → (ℕ → A) → ℕ → Type (ℓ ⊔ κ)
AllCompared O x n = (i j : ℕ) → i < n → j < n → Compared O (x i) (x j)

-- Decided letters are compared at all positions.
pub decided_compared {ℓ κ} : {A : Type ℓ} {O : Letters {ℓ, κ} A} (D : Decided O) (x : ℕ → A) (n : ℕ) → AllCompared O x n
decided_compared D x n i j p q = (D.compare (x i) (x j), D.right (x i) (x j))

module _ {ℓ κ} {A : Type ℓ} (O : Letters {ℓ, κ} A) (x : ℕ → A) (n : ℕ) (compared : AllCompared O x n) where
  suffix_compare_from : (i j fuel d : ℕ) → i + d ≤ n → j + d ≤ n → ¬ (i ≡ j) → n ≤ fuel + d → Agree x i j d →
      SuffixLess O x n i j ⊎ SuffixLess O x n j i
  suffix_compare_from i j zero d p q ne h g = absurd (ne (omega arith))
  suffix_compare_from i j (suc fuel) d p q ne h g =
      go (dec_lt (i + d) n) (dec_lt (j + d) n) (λ p' q' g'. suffix_compare_from i j fuel (suc d) p' q' ne (omega arith) g')
    where
      letter : i + d < n → j + d < n → (c : Comparison) → Means O c (x (i + d)) (x (j + d)) →
          (i + suc d ≤ n → j + suc d ≤ n → Agree x i j (suc d) → SuffixLess O x n i j ⊎ SuffixLess O x n j i) →
          SuffixLess O x n i j ⊎ SuffixLess O x n j i
      letter a b below m rest = inl (parts d a b g m)
      letter a b above m rest = inr (parts d b a (agree_sym x i j d g) m)
      letter a b same m rest = rest (omega arith) (omega arith) longer
        where
          longer : Agree x i j (suc d)
          longer k l = at (dec_lt k d)
            where
              at : Dec (k < d) → x (i + k) ≡ x (j + k)
              at (yes r) = g k r
              at (no r) = let t : d ≡ k = omega (arith, r) in subst (λ (z : ℕ). x (i + z) ≡ x (j + z)) t m.lower

      go : Dec (i + d < n) → Dec (j + d < n) → (i + suc d ≤ n → j + suc d ≤ n → Agree x i j (suc d) → SuffixLess O x n i j ⊎ SuffixLess O x n j i) →
          SuffixLess O x n i j ⊎ SuffixLess O x n j i
      go (yes a) (yes b) rest = let c = compared (i + d) (j + d) a b in letter a b c.0 c.1 rest
      go (yes a) (no b) rest = inr (ends d (omega (arith, b)) a (agree_sym x i j d g))
      go (no a) (yes b) rest = inl (ends d (omega (arith, a)) b g)
      go (no a) (no b) rest = absurd (ne (omega (arith, a, b)))

  -- Of two different suffixes one is smaller.
  pub suffix_compare : (i j : ℕ) → i ≤ n → j ≤ n → ¬ (i ≡ j) → SuffixLess O x n i j ⊎ SuffixLess O x n j i
  suffix_compare i j p q ne =
      suffix_compare_from i j n 0 (omega arith) (omega arith) ne (omega arith) (λ k h. absurd (omega arith))

  next_from : (i fuel e : ℕ) → i < e → e ≤ n → n ≤ fuel + e → ((k : ℕ) → i < k → k < e → SuffixLess O x n i k) →
      (f : ℕ) × NextSmaller O x n i f
  next_from i zero e p q h b =
      let t : n ≡ e = omega arith in
      (e, record { after = p; inside = q; drops = subst (λ (z : ℕ). SuffixLess O x n z i) t (empty_suffix_less O x n i (omega arith)); between = b })
  next_from i (suc fuel) e p q h b = go (suffix_compare i e (omega arith) q (λ z. omega arith)) (λ q' b'. next_from i fuel (suc e) (omega arith) q' (omega arith) b')
    where
      go : SuffixLess O x n i e ⊎ SuffixLess O x n e i →
          (suc e ≤ n → ((k : ℕ) → i < k → k < suc e → SuffixLess O x n i k) → (f : ℕ) × NextSmaller O x n i f) → (f : ℕ) × NextSmaller O x n i f
      go (inr s) rest = (e, record { after = p; inside = q; drops = s; between = b })
      go (inl s) rest = more (dec_lt e n)
        where
          here : (k : ℕ) → i < k → k < suc e → SuffixLess O x n i k
          here k a c = at (dec_lt k e)
            where
              at : Dec (k < e) → SuffixLess O x n i k
              at (yes r) = b k a r
              at (no r) = let t : e ≡ k = omega (arith, r) in subst (λ (z : ℕ). SuffixLess O x n i z) t s

          more : Dec (e < n) → (f : ℕ) × NextSmaller O x n i f
          more (yes l) = rest l here
          more (no l) =
              let t : n ≡ e = omega (arith, l) in
              (e, record { after = p; inside = q; drops = subst (λ (z : ℕ). SuffixLess O x n z i) t (empty_suffix_less O x n i (omega arith)); between = b })

  -- Every position has a next smaller suffix.
  pub next_exists : (i : ℕ) → i < n → (e : ℕ) × NextSmaller O x n i e
  next_exists i l = next_from i n (suc i) (omega arith) l (omega arith) (λ k p q. absurd (omega arith))

  -- The longest Lyndon word at a position ends at its next smaller suffix.
  pub longest_next : (i e : ℕ) → SpanLyndon O x i e → e ≤ n → ((b : ℕ) → e < b → b ≤ n → ¬ SpanLyndon O x i b) → NextSmaller O x n i e
  longest_next i e w h m = go (next_exists i (omega (arith, w.non_empty)))
    where
      go : (f : ℕ) × NextSmaller O x n i f → NextSmaller O x n i e
      go (f, q) = at (dec_lt e f)
        where
          l : e ≤ f
          l = lyndon_before_next O x n i e f w h q

          at : Dec (e < f) → NextSmaller O x n i e
          at (yes r) = absurd (m f r q.inside (next_lyndon O x n i f q))
          at (no r) = let t : f ≡ e = omega (arith, r, l) in subst (λ (z : ℕ). NextSmaller O x n i z) t q

-- A property that cannot be refuted at any number below m cannot be refuted at all of them together.
pub all_irrefutable {ℓ} : (P : ℕ → Type ℓ) (m : ℕ) → ((k : ℕ) → k < m → ¬ ¬ P k) → ¬ ¬ ((k : ℕ) → k < m → P k)
all_irrefutable P zero h never = never (λ k l. absurd (omega arith))
all_irrefutable P (suc m) h never =
    all_irrefutable P m (λ k l. h k (omega arith)) (λ q. h m (omega arith) (λ p. never (below_suc P m q p)))

-- That all letters of a text are compared cannot be refuted.
pub all_compared_irrefutable {ℓ κ} : {A : Type ℓ} (O : Letters {ℓ, κ} A) (x : ℕ → A) (n : ℕ) → ¬ ¬ AllCompared O x n
all_compared_irrefutable O x n never =
    all_irrefutable (λ i. (j : ℕ) → j < n → Compared O (x i) (x j)) n
    (λ i l. all_irrefutable (λ j. Compared O (x i) (x j)) n (λ j m. compared_irrefutable O (x i) (x j)))
    (λ q. never (λ i j a b. q i a j b))

-- Equations between numbers, and between lists of numbers, hold where they cannot be refuted.
pub number_stable : (a b : ℕ) → ¬ ¬ (a ≡ b) → a ≡ b
number_stable a b h = go (ℕ_discrete a b)
  where
    go : Dec (a ≡ b) → a ≡ b
    go (yes e) = e
    go (no e) = absurd (h e)

pub numbers_stable : (s t : List ℕ) → ¬ ¬ (s ≡ t) → s ≡ t
numbers_stable s t h =
    ext_get_or 0 s t (number_stable (length s) (length t) (λ k. h (λ e. k (ap length e))))
    (λ i l. number_stable (get_or s i 0) (get_or t i 0) (λ k. h (λ e. k (ap (λ (w : List ℕ). get_or w i 0) e))))
