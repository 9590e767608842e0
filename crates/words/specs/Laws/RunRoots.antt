-- Every run has a Lyndon word of its period, and so one at a rightmost place.
-- Assumes nothing.
use Rattle.std.specs.Prelude.{◌≡◌, ℕ, zero, suc, ◌+◌, ◌-◌, ◌%◌, ◌<◌, ◌≤◌}
use Rattle.std.proofs.Common.{sym, ap, subst, ◌∙◌, mod-lt, arith}
use Rattle.std.proofs.Math.Nat.{add-mod_right}
use Rattle.std.proofs.Math.Decide.{dec_lt}
use Rattle.words.specs.Letters.{Letters, Smaller}
use Rattle.words.specs.Laws.Letters.{Compared}
use Rattle.words.specs.Laws.Position.{BelowWithin, SpanLyndon}
use Rattle.words.specs.Laws.Compared.{AllCompared}
use Rattle.words.specs.Laws.Periods.{SpanRun, period_copies}
use Rattle.words.specs.Laws.Rotations.{Primitive, LeastRotation, least_rotation, least_lyndon}

-- Where p letters from i in x and from j in y on are the same, they are a Lyndon word in both or in none.
pub lyndon_carried {ℓ κ} : {A : Type ℓ} (O : Letters {ℓ, κ} A) (x y : ℕ → A) (i j p : ℕ) → ((u : ℕ) → u < p → x (i + u) ≡ y (j + u)) →
    SpanLyndon O x i (i + p) → SpanLyndon O y j (j + p)
lyndon_carried {A} O x y i j p g v =
    record { non_empty = omega (arith, v.non_empty); below = λ k a b. within k a b (v.below (i + (k - j)) (omega arith) (omega arith)) }
  where
    within : (k : ℕ) → j < k → k < j + p → BelowWithin O x i (i + (k - j)) (i + p) → BelowWithin O y j k (j + p)
    within k a b w =
        record {
          offset = w.offset;
          inside = omega (arith, w.inside);
          agree = λ u l. sym (g u (omega (arith, w.inside))) ∙ w.agree u l ∙ later u (omega (arith, w.inside));
          smaller =
              subst (λ (c : A). Smaller O c (y (k + w.offset))) (g w.offset (omega (arith, w.inside)))
              (subst (λ (c : A). Smaller O (x (i + w.offset)) c) (later w.offset w.inside) w.smaller);
        }
      where
        later : (u : ℕ) → i + (k - j) + u < i + p → x (i + (k - j) + u) ≡ y (k + u)
        later u l =
            let c : i + (k - j) + u ≡ i + ((k - j) + u) = omega arith in
            let d : j + ((k - j) + u) ≡ k + u = omega arith in
            ap x c ∙ g ((k - j) + u) (omega arith) ∙ ap y d

-- The Lyndon word of period p that starts last in a run from s to e.
pub record LastRoot {ℓ κ} {A : Type ℓ} (O : Letters {ℓ, κ} A) (x : ℕ → A) (s e p i : ℕ) : Type (ℓ ⊔ κ) where
  pub low : s ≤ i
  pub high : i + p ≤ e
  pub last : e < i + (p + p)
  pub lyndon : SpanLyndon O x i (i + p)

module _ {ℓ κ} {A : Type ℓ} (O : Letters {ℓ, κ} A) (x : ℕ → A) (n s e p : ℕ) (compared : AllCompared O x n) (r : SpanRun x n s e p) where
  -- The first p letters of the run, repeated without end.
  abbrev turning : ℕ → A
  turning t = x (s + t % p)

  turning_repeats : (t : ℕ) → turning t ≡ turning (t + p)
  turning_repeats t = ap (λ (u : ℕ). x (s + u)) (sym (add-mod_right t p))

  turning_at : (t : ℕ) → s + t < e → x (s + t) ≡ turning t
  turning_at t h = sym (period_copies x s e p r.positive r.period t h)

  turning_primitive : Primitive turning p
  turning_primitive = record { positive = r.positive; repeats = turning_repeats; no_sooner = sooner }
    where
      sooner : (d : ℕ) → 0 < d → d < p → ¬ ((t : ℕ) → turning t ≡ turning (t + d))
      sooner d a b h =
          r.smallest d a b
          (λ t f g.
          let u : ℕ = t - s in
          let k : s + u ≡ t = omega arith in
          let m : s + (u + d) ≡ t + d = omega arith in
          sym (ap x k) ∙ turning_at u (omega arith) ∙ h u ∙ sym (turning_at (u + d) (omega arith)) ∙ ap x m)

  turning_compared : (i j : ℕ) → Compared O (turning i) (turning j)
  turning_compared i j =
      compared (s + i % p) (s + j % p) (omega (arith, mod-lt i {m = p} r.positive, r.twice, r.inside))
      (omega (arith, mod-lt j {m = p} r.positive, r.twice, r.inside))

  -- A Lyndon word of the repeated letters that lies in the run is one of the text.
  turning_lyndon : (k : ℕ) → s + k + p ≤ e → SpanLyndon O turning k (k + p) → SpanLyndon O x (s + k) (s + k + p)
  turning_lyndon k h =
      lyndon_carried O turning x k (s + k) p
      (λ u l.
      let c : s + (k + u) ≡ s + k + u = omega arith in
      sym (turning_at (k + u) (omega arith)) ∙ ap x c)

  -- A Lyndon word of the repeated letters stands again p letters on.
  turning_again : (k : ℕ) → SpanLyndon O turning k (k + p) → SpanLyndon O turning (k + p) (k + p + p)
  turning_again k =
      lyndon_carried O turning turning k (k + p) p
      (λ u l.
      let c : k + u + p ≡ k + p + u = omega arith in
      turning_repeats (k + u) ∙ ap turning c)

  -- Of the places of a Lyndon word of the repeated letters in the run, the last one.
  last_from : (fuel k : ℕ) → e < fuel + (s + k + p) → s + k + p ≤ e → SpanLyndon O turning k (k + p) → (i : ℕ) × LastRoot O x s e p i
  last_from zero k f h v = absurd (omega arith)
  last_from (suc fuel) k f h v = go (dec_lt e (s + k + (p + p))) (λ f' h'. last_from fuel (k + p) f' h' (turning_again k v))
    where
      go : Dec (e < s + k + (p + p)) → (e < fuel + (s + (k + p) + p) → s + (k + p) + p ≤ e → (i : ℕ) × LastRoot O x s e p i) → (i : ℕ) × LastRoot O x s e p i
      go (yes l) rest = (s + k, record { low = omega arith; high = h; last = l; lyndon = turning_lyndon k h v })
      go (no l) rest = rest (omega (arith, r.positive)) (omega (arith, l))

  -- Every run has a Lyndon word of its period, and so a last one.
  pub last_root : (i : ℕ) × LastRoot O x s e p i
  last_root = go (least_rotation O turning p turning_primitive turning_compared (p - 1) (omega (arith, r.positive)))
    where
      go : (k : ℕ) × LeastRotation O turning (suc (p - 1)) k → (i : ℕ) × LastRoot O x s e p i
      go (k, v) =
          let c : suc (p - 1) ≡ p = omega (arith, r.positive) in
          let u : LeastRotation O turning p k = subst (λ (m : ℕ). LeastRotation O turning m k) c v in
          last_from e k (omega (arith, r.positive)) (omega (arith, u.early, r.twice))
          (least_lyndon O turning p turning_primitive turning_compared k u)
