-- Every run is listed at one position under one of the two orders.
-- Assumes nothing.
use Rattle.std.specs.Prelude.{◌≡◌, ◌⊎◌, ℕ, suc, ◌+◌, ◌-◌, ◌<◌}
use Rattle.std.proofs.Common.{sym, ap, subst, ◌∙◌, inl, inr, arith}
use Rattle.std.proofs.Math.Decide.{dec_lt, ℕ_discrete}
use Rattle.words.specs.Letters.{Letters, Smaller, reversed}
use Rattle.words.specs.Decided.{Comparison, below, same, above, Means, turned_means}
use Rattle.words.specs.Laws.Position.{BelowWithin}
use Rattle.words.specs.Laws.SuffixOrder.{SuffixLess, ends, parts, NextSmaller}
use Rattle.words.specs.Laws.NextSmaller.{next_lyndon}
use Rattle.words.specs.Laws.Compared.{AllCompared}
use Rattle.words.specs.Laws.Periods.{SpanRun}
use Rattle.words.specs.Laws.RunExtent.{Extent, extent_unique}
use Rattle.words.specs.Laws.RunListing.{ListedAt, Falls, listed_falls, listed_after_start, reversed_compared, falls_listed, at_end, by_letter}

module _ {ℓ κ} {A : Type ℓ} (O : Letters {ℓ, κ} A) (x : ℕ → A) (n : ℕ) where
  -- Every run is listed: under O where its end falls, otherwise under the reversed order.
  pub run_listed : AllCompared O x n → (s e p : ℕ) → SpanRun x n s e p →
      ((i : ℕ) × ListedAt O x n (suc n) i s e p) ⊎ ((i : ℕ) × ListedAt (reversed O) x n n i s e p)
  run_listed compared s e p r = go (dec_lt e n)
    where
      t : ℕ
      t = e - p

      is : e ≡ t + p
      is = omega (arith, r.twice)

      under : Falls O x n e p → (i : ℕ) × ListedAt O x n (suc n) i s e p
      under f = falls_listed O x n compared (suc n) s e p r f (omega (arith, r.inside))

      by : e < n → (c : Comparison) → Means O c (x e) (x t) →
          ((i : ℕ) × ListedAt O x n (suc n) i s e p) ⊎ ((i : ℕ) × ListedAt (reversed O) x n n i s e p)
      by l below v = inl (under (by_letter l t is v))
      by l same v = absurd (r.no_right t is l (sym v.lower))
      by l above v =
          inr
          (falls_listed (reversed O) x n (reversed_compared O x n compared) n s e p r
          (by_letter l t is (turned_means O above (x e) (x t) v)) l)

      go : Dec (e < n) → ((i : ℕ) × ListedAt O x n (suc n) i s e p) ⊎ ((i : ℕ) × ListedAt (reversed O) x n n i s e p)
      go (yes l) = let c = compared e t l (omega (arith, is)) in by l c.0 c.1
      go (no l) = inl (under (at_end (omega (arith, l, r.inside))))

  -- A run that is listed under O is not listed under the reversed order.
  pub listed_one_order : (bound i i' s e p : ℕ) → ListedAt O x n bound i s e p → ¬ ListedAt (reversed O) x n n i' s e p
  listed_one_order bound i i' s e p r r' =
      let t : ℕ = e - p in
      let is : e ≡ t + p = omega (arith, r.twice) in
      let v : Smaller O (x e) (x t) = listed_falls O x n bound i s e p r r'.early t is in
      let v' : Smaller (reversed O) (x e) (x t) = listed_falls (reversed O) x n n i' s e p r' r'.early t is in
      O.not_both (x e) (x t) v.0 (v.1, v'.1)

  -- Under one of the two orders the next smaller suffix is the next one.
  next_at_once : (i p p' : ℕ) → NextSmaller O x n i (i + p) → NextSmaller (reversed O) x n i (i + p') → (p ≡ 1) ⊎ (p' ≡ 1)
  next_at_once i p p' w w' = go (dec_lt 1 p) (dec_lt 1 p')
    where
      both : SuffixLess O x n i (suc i) → SuffixLess (reversed O) x n i (suc i) → ⊥
      both (ends d a b g) v = omega arith
      both (parts d a b g c) (ends d' a' b' g') = omega arith
      both (parts d a b g c) (parts d' a' b' g' c') = at (dec_lt d d') (dec_lt d' d)
        where
          at : Dec (d < d') → Dec (d' < d) → ⊥
          at (yes l) m = c.0 (g' d l)
          at (no l) (yes m) = c'.0 (g d' m)
          at (no l) (no m) =
              let t : d' ≡ d = omega (arith, l, m) in
              let u : Smaller (reversed O) (x (i + d)) (x (suc i + d)) =
              subst (λ (k : ℕ). Smaller (reversed O) (x (i + k)) (x (suc i + k))) t c' in
              O.not_both (x (i + d)) (x (suc i + d)) c.0 (c.1, u.1)

      go : Dec (1 < p) → Dec (1 < p') → (p ≡ 1) ⊎ (p' ≡ 1)
      go (no l) m = inl (omega (arith, l, w.after))
      go (yes l) (no m) = inr (omega (arith, m, w'.after))
      go (yes l) (yes m) = absurd (both (w.between (suc i) (omega arith) (omega arith)) (w'.between (suc i) (omega arith) (omega arith)))

-- Of a run of period 1 and a run of a greater period, under any two orders, no position inside both is a root of both.
single_letter_apart {ℓ κ} : {A : Type ℓ} (O Q : Letters {ℓ, κ} A) (x : ℕ → A) (n bound bound' i s e p s' e' : ℕ) → 1 < p →
    ListedAt O x n bound i s e p → ¬ ListedAt Q x n bound' i s' e' 1
single_letter_apart O Q x n bound bound' i s e p s' e' l r r' =
    let k : ℕ = i - 1 in
    let a : s < i = listed_after_start O x n bound i s e p r in
    let a' : s' < i = listed_after_start Q x n bound' i s' e' 1 r' in
    let w : BelowWithin O x i (i + (p - 1)) (i + p) =
    (next_lyndon O x n i (i + p) r.next).below (i + (p - 1)) (omega arith) (omega arith) in
    let b : k + 1 ≡ i + w.offset = omega (arith, w.inside) in
    let c : k + p ≡ i + (p - 1) + w.offset = omega (arith, w.inside) in
    w.smaller.0
    (sym (ap x b) ∙ sym (r'.extent.left k (omega arith) (omega arith)) ∙ r.extent.left k (omega arith) (omega arith) ∙ ap x c)

module _ {ℓ κ} {A : Type ℓ} (O : Letters {ℓ, κ} A) (x : ℕ → A) (n : ℕ) where
  -- No position lists a run under O and another under the reversed order.
  pub listed_one_each : (bound i s e p s' e' p' : ℕ) → ListedAt O x n bound i s e p → ¬ ListedAt (reversed O) x n n i s' e' p'
  listed_one_each bound i s e p s' e' p' r r' = go (next_at_once O x n i p p' r.next r'.next) (ℕ_discrete p p')
    where
      unlike : ¬ (p ≡ p') → (p ≡ 1) ⊎ (p' ≡ 1) → ⊥
      unlike d (inl h) =
          single_letter_apart (reversed O) O x n n bound i s' e' p' s e (omega (arith, d, r'.next.after)) r'
          (subst (λ (q : ℕ). ListedAt O x n bound i s e q) h r)
      unlike d (inr h) =
          single_letter_apart O (reversed O) x n bound n i s e p s' e' (omega (arith, d, r.next.after)) r
          (subst (λ (q : ℕ). ListedAt (reversed O) x n n i s' e' q) h r')

      go : (p ≡ 1) ⊎ (p' ≡ 1) → Dec (p ≡ p') → ⊥
      go h (no d) = unlike d h
      go h (yes c) =
          let u = extent_unique x n i s e p s' e' r.extent (subst (λ (q : ℕ). Extent x n i s' e' q) (sym c) r'.extent) in
          listed_one_order O x n bound i i s e p r (rw (u.0, u.1, c) r')
