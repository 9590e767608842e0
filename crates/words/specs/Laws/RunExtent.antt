-- How far a period goes around a position.
-- Assumes nothing.
use Rattle.std.specs.Prelude.{◌≡◌, ℕ, suc, ◌+◌, ◌-◌, ◌<◌, ◌≤◌}
use Rattle.std.proofs.Common.{sym, ap, ◌∙◌, arith}
use Rattle.std.proofs.Math.Decide.{dec_lt}
use Rattle.words.specs.Laws.Position.{Agree}

-- How far period p goes around i: from s to e, and no letter further, letters at distance p are equal.
pub record Extent {ℓ} {A : Type ℓ} (x : ℕ → A) (n i s e p : ℕ) : Type ℓ where
  pub low : s ≤ i
  pub high : i + p ≤ e
  pub inside : e ≤ n
  pub left : (t : ℕ) → s ≤ t → t < i → x t ≡ x (t + p)
  pub right : (t : ℕ) → i ≤ t → t + p < e → x t ≡ x (t + p)
  pub left_stops : (t : ℕ) → s ≡ suc t → ¬ (x t ≡ x (t + p))
  pub right_stops : (t : ℕ) → e ≡ t + p → e < n → ¬ (x t ≡ x e)

module _ {ℓ} {A : Type ℓ} (x : ℕ → A) (n : ℕ) where
  -- The extent, from the agreement k of the suffixes at i and i + p, and from the equal letters before them down to s.
  pub extent_from : (i p k s : ℕ) → i + p + k ≤ n → Agree x i (i + p) k → (i + p + k < n → ¬ (x (i + k) ≡ x (i + p + k))) → s ≤ i →
      ((t : ℕ) → s ≤ t → t < i → x t ≡ x (t + p)) → ((t : ℕ) → s ≡ suc t → ¬ (x t ≡ x (t + p))) → Extent x n i s (i + p + k) p
  extent_from i p k s h g stop l left left_stops =
      record {
        low = l;
        high = omega arith;
        inside = h;
        left = left;
        right =
            λ t a b.
            let u : i + (t - i) ≡ t = omega arith in
            let v : i + p + (t - i) ≡ t + p = omega arith in
            sym (ap x u) ∙ g (t - i) (omega arith) ∙ ap x v;
        left_stops = left_stops;
        right_stops =
            λ t a b q.
            let u : i + k ≡ t = omega arith in
            stop b (ap x u ∙ q);
      }

  starts_no_later : (i s e p s' e' : ℕ) → Extent x n i s e p → Extent x n i s' e' p → s' ≤ s
  starts_no_later i s e p s' e' m m' = go (dec_lt s s')
    where
      go : Dec (s < s') → s' ≤ s
      go (yes l) = absurd (m'.left_stops (s' - 1) (omega arith) (m.left (s' - 1) (omega arith) (omega (arith, m'.low))))
      go (no l) = omega (arith, l)

  ends_no_later : (i s e p s' e' : ℕ) → Extent x n i s e p → Extent x n i s' e' p → e' ≤ e
  ends_no_later i s e p s' e' m m' = go (dec_lt e e')
    where
      go : Dec (e < e') → e' ≤ e
      go (yes l) =
          let c : e - p + p ≡ e = omega (arith, m.high) in
          absurd
          (m.right_stops (e - p) (sym c) (omega (arith, m'.inside))
          (m'.right (e - p) (omega (arith, m.high)) (omega arith) ∙ ap x c))
      go (no l) = omega (arith, l)

  -- A period has one extent around a position.
  pub extent_unique : (i s e p s' e' : ℕ) → Extent x n i s e p → Extent x n i s' e' p → (s ≡ s') × (e ≡ e')
  extent_unique i s e p s' e' m m' = (
    omega (arith, starts_no_later i s e p s' e' m m', starts_no_later i s' e' p s e m' m),
    omega (arith, ends_no_later i s e p s' e' m m', ends_no_later i s' e' p s e m' m),
  )
