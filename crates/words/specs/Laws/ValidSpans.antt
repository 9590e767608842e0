-- The spans of a valid array: they nest, and each position is held by the spans that hold its innermost one.
-- Assumes nothing.
use Rattle.std.specs.Prelude.{◌≡◌, refl, Bool, true, false, ◌⊎◌, List, ℕ, zero, suc, ◌<◌, ◌≤◌, length, ltb}
use Rattle.std.proofs.Common.{subst, inl, inr, arith, ltb-true, ltb-false, eq-eqb, ne_eqb}
use Rattle.std.proofs.Math.Decide.{dec_lt}
use Rattle.words.specs.ValidArray.{Valid}
use Rattle.words.specs.ArrayForest.{end_of, innermost, first_for, past_for}

-- i is the greatest position below k whose span holds j.
pub record Innermost (a : List ℕ) (j k i : ℕ) : Type 0 where
  pub below : i < k
  pub holds : j < end_of a i
  pub last : (m : ℕ) → i < m → m < k → end_of a m ≤ j

-- A position inside the span at k whose innermost span is that of an earlier i comes before k, or is k.
pub innermost_next : (a : List ℕ) (i j k : ℕ) → i < k → j < end_of a k → Innermost a j j i → (j < k) ⊎ (k ≡ j)
innermost_next a i j k h p m = go (dec_lt j k) (dec_lt k j)
  where
    go : Dec (j < k) → Dec (k < j) → (j < k) ⊎ (k ≡ j)
    go (yes q) s = inl q
    go (no q) (yes s) = absurd (omega (arith, m.last k h s, p))
    go (no q) (no s) = inr (omega (arith, q, s))

-- No span that starts below k holds j.
abbrev pub Unheld : List ℕ → ℕ → ℕ → Type 0
Unheld a j k = (m : ℕ) → m < k → end_of a m ≤ j

-- What `innermost` tells, by cases.
pub data InnermostCase (a : List ℕ) (j k : ℕ) : Type 0 where
  held : (i : ℕ) → innermost a j k ≡ i → Innermost a j k i → InnermostCase a j k
  unheld : innermost a j k ≡ j → Unheld a j k → InnermostCase a j k

pub innermost_case : (a : List ℕ) (j k : ℕ) → InnermostCase a j k
innermost_case a j zero = unheld refl (λ m h. absurd (omega arith))
innermost_case a j (suc k) = go (ltb j (end_of a k)) refl (innermost_case a j k)
  where
    go : (b : Bool) → ltb j (end_of a k) ≡ b → InnermostCase a j k → InnermostCase a j (suc k)
    go true e c =
        held k (rw (e, innermost))
        (record { below = omega arith; holds = ltb-true j (end_of a k) e; last = λ m p q. absurd (omega arith) })
    go false e (held i p q) =
        held i (rw (e, innermost) p)
        (record {
          below = omega (arith, q.below);
          holds = q.holds;
          last = λ m r s. after m r s (dec_lt m k);
        })
      where
        after : (m : ℕ) → i < m → m < suc k → Dec (m < k) → end_of a m ≤ j
        after m r s (yes t) = q.last m r t
        after m r s (no t) =
            let z : k ≡ m = omega (arith, t) in
            subst (λ (w : ℕ). end_of a w ≤ j) z (ltb-false j (end_of a k) e)
    go false e (unheld p q) = unheld (rw (e, innermost) p) (λ m s. before m s (dec_lt m k))
      where
        before : (m : ℕ) → m < suc k → Dec (m < k) → end_of a m ≤ j
        before m s (yes t) = q m t
        before m s (no t) =
            let z : k ≡ m = omega (arith, t) in
            subst (λ (w : ℕ). end_of a w ≤ j) z (ltb-false j (end_of a k) e)

-- There is one innermost span.
pub innermost_is : (a : List ℕ) (j k i : ℕ) → Innermost a j k i → innermost a j k ≡ i
innermost_is a j k i h = go (innermost_case a j k)
  where
    go : InnermostCase a j k → innermost a j k ≡ i
    go (unheld p q) = absurd (omega (arith, q i h.below, h.holds))
    go (held l p q) = at (dec_lt l i) (dec_lt i l)
      where
        at : Dec (l < i) → Dec (i < l) → innermost a j k ≡ i
        at (yes r) s = absurd (omega (arith, q.last i r h.below, h.holds))
        at (no r) (yes s) = absurd (omega (arith, h.last l s q.below, q.holds))
        at (no r) (no s) = omega (arith, r, s, p)

pub unheld_is : (a : List ℕ) (j k : ℕ) → Unheld a j k → innermost a j k ≡ j
unheld_is a j k h = go (innermost_case a j k)
  where
    go : InnermostCase a j k → innermost a j k ≡ j
    go (unheld p q) = p
    go (held l p q) = absurd (omega (arith, h l q.below, q.holds))

-- A position that has itself in FIRST is held by no earlier span.
pub own_unheld : (a : List ℕ) (j : ℕ) → first_for a j ≡ j → Unheld a j j
own_unheld a j e = go (innermost_case a j j)
  where
    go : InnermostCase a j j → Unheld a j j
    go (unheld p q) = q
    go (held l p q) = absurd (omega (arith, e, p, q.below))

-- PAST by cases.
pub past_of_start : (a : List ℕ) (j : ℕ) → first_for a j ≡ j → past_for a j ≡ j
past_of_start a j e = rw (eq-eqb (first_for a j) j e, past_for)

pub past_of_inner : (a : List ℕ) (j : ℕ) → ¬ (first_for a j ≡ j) → past_for a j ≡ end_of a j
past_of_inner a j n = rw (ne_eqb (first_for a j) j n, past_for)

module _ (a : List ℕ) (v : Valid a) where
  pub end_after : (i : ℕ) → i < length a → i < end_of a i
  end_after i h = omega (arith, (v.in_range i h).positive)

  pub end_inside : (i : ℕ) → i < length a → end_of a i ≤ length a
  end_inside i h = (v.in_range i h).fits

  -- A span that starts inside another ends inside it.
  pub ends_nest : (i k : ℕ) → k < length a → i < k → k < end_of a i → end_of a k ≤ end_of a i
  ends_nest i k h p q = go (dec_lt (end_of a i) (end_of a k))
    where
      go : Dec (end_of a i < end_of a k) → end_of a k ≤ end_of a i
      go (yes l) = absurd (v.nested k h (record { earlier = i; before = p; holds = q; past = l }))
      go (no l) = omega (arith, l)

  -- Where no earlier span holds i, none holds the end of i's span.
  pub end_unheld : (i : ℕ) → i < length a → Unheld a i i → Unheld a (end_of a i) (end_of a i)
  end_unheld i h u m l = go (dec_lt m i) (dec_lt i m)
    where
      go : Dec (m < i) → Dec (i < m) → end_of a m ≤ end_of a i
      go (yes p) q = omega (arith, u m p, end_after i h)
      go (no p) (yes q) = ends_nest i m (omega (arith, end_inside i h)) q l
      go (no p) (no q) =
          let e : i ≡ m = omega (arith, p, q) in
          subst (λ (w : ℕ). end_of a w ≤ end_of a i) e (omega arith)
