-- The least rotation of a periodic sequence is a Lyndon word.
-- Assumes nothing.
use Rattle.std.specs.Prelude.{◌≡◌, refl, ◌⊎◌, ℕ, zero, suc, ◌+◌, ◌-◌, ◌<◌, ◌≤◌}
use Rattle.std.proofs.Common.{sym, ap, subst, ◌∙◌, inl, inr, arith}
use Rattle.std.proofs.Math.Decide.{dec_lt, ℕ_discrete}
use Rattle.words.specs.Letters.{Letters, Smaller}
use Rattle.words.specs.Decided.{Comparison, below, same, above, Means}
use Rattle.words.specs.Laws.Letters.{Compared}
use Rattle.words.specs.Laws.Position.{Agree, BelowFrom, BelowWithin, SpanLyndon}
use Rattle.words.specs.Laws.SuffixOrder.{agree_sym, agree_shift, earlier_difference}

module _ {ℓ κ} {A : Type ℓ} (O : Letters {ℓ, κ} A) (y : ℕ → A) where
  from_irrefl : (i : ℕ) → ¬ BelowFrom O y i i
  from_irrefl i w = w.smaller.0 refl

  from_trans : (i j k : ℕ) → BelowFrom O y i j → BelowFrom O y j k → BelowFrom O y i k
  from_trans i j k p q = (earlier_difference O y i j k p q).0

  from_asym : (i j : ℕ) → BelowFrom O y i j → ¬ BelowFrom O y j i
  from_asym i j p q = from_irrefl i (from_trans i j i p q)

  -- Where all letters agree with those from k on, k may stand for j.
  from_right : (i j k : ℕ) → ((t : ℕ) → y (j + t) ≡ y (k + t)) → BelowFrom O y i j → BelowFrom O y i k
  from_right i j k g w =
      record {
        offset = w.offset;
        agree = λ t l. w.agree t l ∙ g t;
        smaller = subst (λ (z : A). Smaller O (y (i + w.offset)) z) (g w.offset) w.smaller;
      }

  -- A common part may be taken away.
  from_cancel : (i j m : ℕ) (w : BelowFrom O y i j) → m ≤ w.offset → BelowFrom O y (i + m) (j + m)
  from_cancel i j m w l =
      let d : ℕ = w.offset in
      let a : i + d ≡ i + m + (d - m) = omega arith in
      let b : j + d ≡ j + m + (d - m) = omega arith in
      record {
        offset = d - m;
        agree = agree_shift y i j d m w.agree (d - m) (omega arith);
        smaller =
            subst (λ (z : ℕ). Smaller O (y (i + m + (d - m))) (y z)) b
            (subst (λ (z : ℕ). Smaller O (y z) (y (j + d))) a w.smaller);
      }

-- Two places of a sequence without end are compared on m letters: below, above, or the same.
pub data ComparedOn {ℓ κ} {A : Type ℓ} (O : Letters {ℓ, κ} A) (y : ℕ → A) (i j m : ℕ) : Type (ℓ ⊔ κ) where
  is_below : BelowFrom O y i j → ComparedOn O y i j m
  is_above : BelowFrom O y j i → ComparedOn O y i j m
  is_same : Agree y i j m → ComparedOn O y i j m

module _ {ℓ κ} {A : Type ℓ} (O : Letters {ℓ, κ} A) (y : ℕ → A) (compared : (i j : ℕ) → Compared O (y i) (y j)) where
  compare_on : (i j m : ℕ) → ComparedOn O y i j m
  compare_on i j zero = is_same (λ k l. absurd (omega arith))
  compare_on i j (suc m) = go (compare_on i j m)
    where
      letter : Agree y i j m → (c : Comparison) → Means O c (y (i + m)) (y (j + m)) → ComparedOn O y i j (suc m)
      letter g below s = is_below (record { offset = m; agree = g; smaller = s })
      letter g above s = is_above (record { offset = m; agree = agree_sym y i j m g; smaller = s })
      letter g same s = is_same (λ k l. at k l (dec_lt k m))
        where
          at : (k : ℕ) → k < suc m → Dec (k < m) → y (i + k) ≡ y (j + k)
          at k l (yes r) = g k r
          at k l (no r) = let t : m ≡ k = omega (arith, r) in subst (λ (z : ℕ). y (i + z) ≡ y (j + z)) t s.lower

      go : ComparedOn O y i j m → ComparedOn O y i j (suc m)
      go (is_below w) = is_below w
      go (is_above w) = is_above w
      go (is_same g) = let c = compared (i + m) (j + m) in letter g c.0 c.1

-- The sequence repeats every p letters, and after no smaller distance.
pub record Primitive {ℓ} {A : Type ℓ} (y : ℕ → A) (p : ℕ) : Type ℓ where
  pub positive : 0 < p
  pub repeats : (t : ℕ) → y t ≡ y (t + p)
  pub no_sooner : (d : ℕ) → 0 < d → d < p → ¬ ((t : ℕ) → y t ≡ y (t + d))

-- The rotation at k is below the rotations at all other numbers below m.
pub record LeastRotation {ℓ κ} {A : Type ℓ} (O : Letters {ℓ, κ} A) (y : ℕ → A) (m k : ℕ) : Type (ℓ ⊔ κ) where
  pub early : k < m
  pub least : (j : ℕ) → j < m → ¬ (j ≡ k) → BelowFrom O y k j

module _ {ℓ} {A : Type ℓ} (y : ℕ → A) (p : ℕ) (w : Primitive y p) where
  -- What agrees over a period agrees everywhere.
  agree_on : (i j : ℕ) → Agree y i j p → (fuel t : ℕ) → t < fuel → y (i + t) ≡ y (j + t)
  agree_on i j g zero t l = absurd (omega arith)
  agree_on i j g (suc fuel) t l = go (dec_lt t p) (λ h. agree_on i j g fuel (t - p) h)
    where
      go : Dec (t < p) → (t - p < fuel → y (i + (t - p)) ≡ y (j + (t - p))) → y (i + t) ≡ y (j + t)
      go (yes h) rest = g t h
      go (no h) rest =
          let q : 0 < p = w.positive in
          let a : i + (t - p) + p ≡ i + t = omega (arith, h) in
          let b : j + (t - p) + p ≡ j + t = omega (arith, h) in
          sym (ap y a) ∙ sym (w.repeats (i + (t - p))) ∙ rest (omega (arith, h)) ∙ w.repeats (j + (t - p)) ∙ ap y b

  -- Two places closer than p do not agree over a period.
  rotations_differ : (i d : ℕ) → i < p → 0 < d → d < p → ¬ Agree y i (i + d) p
  rotations_differ i d l a b g = w.no_sooner d a b every
    where
      from : (u : ℕ) → i ≤ u → y u ≡ y (u + d)
      from u h =
          let e : i + (u - i) ≡ u = omega arith in
          let f : i + d + (u - i) ≡ u + d = omega arith in
          sym (ap y e) ∙ agree_on i (i + d) g (suc (u - i)) (u - i) (omega arith) ∙ ap y f

      every : (t : ℕ) → y t ≡ y (t + d)
      every t =
          let e : t + p + d ≡ t + d + p = omega arith in
          w.repeats t ∙ from (t + p) (omega arith) ∙ ap y e ∙ sym (w.repeats (t + d))

module _ {ℓ κ} {A : Type ℓ} (O : Letters {ℓ, κ} A) (y : ℕ → A) (p : ℕ) (w : Primitive y p) (compared : (i j : ℕ) → Compared O (y i) (y j)) where
  rotation_compare : (i j : ℕ) → i < j → j < p → BelowFrom O y i j ⊎ BelowFrom O y j i
  rotation_compare i j l h = go (compare_on O y compared i j p)
    where
      go : ComparedOn O y i j p → BelowFrom O y i j ⊎ BelowFrom O y j i
      go (is_below v) = inl v
      go (is_above v) = inr v
      go (is_same g) =
          let e : j ≡ i + (j - i) = omega arith in
          absurd (rotations_differ y p w i (j - i) (omega arith) (omega arith) (omega arith) (subst (λ (k : ℕ). Agree y i k p) e g))

  pub least_rotation : (m : ℕ) → suc m ≤ p → (k : ℕ) × LeastRotation O y (suc m) k
  least_rotation zero h = (0, record { early = omega arith; least = λ j l n. absurd (n (omega arith)) })
  least_rotation (suc m) h = go (least_rotation m (omega arith))
    where
      go : (k : ℕ) × LeastRotation O y (suc m) k → (k : ℕ) × LeastRotation O y (suc (suc m)) k
      go (k, v) = pick (rotation_compare k (suc m) v.early h)
        where
          pick : BelowFrom O y k (suc m) ⊎ BelowFrom O y (suc m) k → (k : ℕ) × LeastRotation O y (suc (suc m)) k
          pick (inl b) = (k, record { early = omega (arith, v.early); least = λ j l n. at j l n (dec_lt j (suc m)) })
            where
              at : (j : ℕ) → j < suc (suc m) → ¬ (j ≡ k) → Dec (j < suc m) → BelowFrom O y k j
              at j l n (yes r) = v.least j r n
              at j l n (no r) = let t : suc m ≡ j = omega (arith, r) in subst (λ (z : ℕ). BelowFrom O y k z) t b
          pick (inr b) = (suc m, record { early = omega arith; least = λ j l n. at j (omega (arith, n)) (ℕ_discrete j k) })
            where
              at : (j : ℕ) → j < suc m → Dec (j ≡ k) → BelowFrom O y (suc m) j
              at j l (yes e) = subst (λ (z : ℕ). BelowFrom O y (suc m) z) (sym e) b
              at j l (no e) = from_trans O y (suc m) k j b (v.least j l e)

  -- The least rotation is below all others within a period after it.
  least_below : (k : ℕ) → LeastRotation O y p k → (t : ℕ) → k < t → t < k + p → BelowFrom O y k t
  least_below k v t a b = go (dec_lt t p)
    where
      go : Dec (t < p) → BelowFrom O y k t
      go (yes l) = v.least t l (λ e. omega arith)
      go (no l) =
          let c : k < p = v.early in
          from_right O y k (t - p) t
          (λ u.
          let e : t - p + u + p ≡ t + u = omega (arith, l) in
          w.repeats (t - p + u) ∙ ap y e)
          (v.least (t - p) (omega (arith, l)) (λ e. omega (arith, l)))

  -- The least rotation is a Lyndon word.
  pub least_lyndon : (k : ℕ) → LeastRotation O y p k → SpanLyndon O y k (k + p)
  least_lyndon k v = record { non_empty = omega (arith, w.positive); below = λ t a b. within t a b (least_below k v t a b) }
    where
      within : (t : ℕ) → k < t → t < k + p → BelowFrom O y k t → BelowWithin O y k t (k + p)
      within t a b r = go (dec_lt (t + r.offset) (k + p))
        where
          go : Dec (t + r.offset < k + p) → BelowWithin O y k t (k + p)
          go (yes l) = record { offset = r.offset; inside = l; agree = r.agree; smaller = r.smaller }
          go (no l) =
              let m : ℕ = k + p - t in
              let c : BelowFrom O y (k + m) (t + m) = from_cancel O y k t m r (omega (arith, l)) in
              let d : BelowFrom O y (k + m) k =
              from_right O y (k + m) (t + m) k
              (λ u.
              let e : t + m + u ≡ k + u + p = omega arith in
              ap y e ∙ sym (w.repeats (k + u)))
              c in
              absurd (from_asym O y k (k + m) (least_below k v (k + m) (omega arith) (omega arith)) d)
