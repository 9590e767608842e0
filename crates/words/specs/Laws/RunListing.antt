-- A run is listed at its last Lyndon root, whose next smaller suffix is one period on.
-- Assumes nothing.
use Rattle.std.specs.Prelude.{◌≡◌, ℕ, ◌+◌, ◌-◌, ◌<◌, ◌≤◌}
use Rattle.std.proofs.Common.{sym, ap, subst, ◌∙◌, arith}
use Rattle.std.proofs.Math.Decide.{dec_lt}
use Rattle.words.specs.Letters.{Letters, Smaller, reversed}
use Rattle.words.specs.Decided.{turned, turned_means}
use Rattle.words.specs.Laws.Position.{Agree, BelowWithin}
use Rattle.words.specs.Laws.SuffixOrder.{SuffixLess, ends, parts, NextSmaller, suffix_cancel, agree_sym}
use Rattle.words.specs.Laws.NextSmaller.{next_lyndon, next_unique, next_nests, lyndon_next}
use Rattle.words.specs.Laws.Compared.{AllCompared}
use Rattle.words.specs.Laws.Periods.{SpanPeriod, SpanRun}
use Rattle.words.specs.Laws.RunRoots.{lyndon_carried, LastRoot, last_root}
use Rattle.words.specs.Laws.RunExtent.{Extent, extent_unique}

-- Position i lists the span from s to e with period p: its next smaller suffix is p letters on, the span is as far as period p goes
-- around it and holds two periods, i is its last root, and its end is below bound.
pub record ListedAt {ℓ κ} {A : Type ℓ} (O : Letters {ℓ, κ} A) (x : ℕ → A) (n bound i s e p : ℕ) : Type (ℓ ⊔ κ) where
  pub next : NextSmaller O x n i (i + p)
  pub extent : Extent x n i s e p
  pub twice : s + (p + p) ≤ e
  pub last : e < i + (p + p)
  pub early : e < bound

-- What follows the end e of a span of period p is smaller than what continues the period, or the text ends there.
pub data Falls {ℓ κ} {A : Type ℓ} (O : Letters {ℓ, κ} A) (x : ℕ → A) (n e p : ℕ) : Type (ℓ ⊔ κ) where
  at_end : e ≡ n → Falls O x n e p
  by_letter : e < n → (t : ℕ) → e ≡ t + p → Smaller O (x e) (x t) → Falls O x n e p

module _ {ℓ κ} {A : Type ℓ} (O : Letters {ℓ, κ} A) (x : ℕ → A) (n : ℕ) where
  -- A Lyndon word that stands at its next smaller suffix again ends at a next smaller suffix there too.
  pub next_again : (i p : ℕ) → NextSmaller O x n i (i + p) → Agree x i (i + p) p → i + p + p ≤ n → NextSmaller O x n (i + p) (i + p + p)
  next_again i p w g h =
      lyndon_next O x n (i + p) (i + p + p) (lyndon_carried O x x i (i + p) p g (next_lyndon O x n i (i + p) w)) h
      (suffix_cancel O x n (i + p) i p (agree_sym x i (i + p) p g) h w.inside w.drops)

  -- Where the next factor has another length, the suffixes agree on less than the factor.
  pub root_agreement_short : (i p v k : ℕ) → NextSmaller O x n i (i + p) → NextSmaller O x n (i + p) (i + p + v) → ¬ (v ≡ p) →
      Agree x i (i + p) k → i + p + k ≤ n → k < p
  root_agreement_short i p v k w m d g h = go (dec_lt k p)
    where
      go : Dec (k < p) → k < p
      go (yes l) = l
      go (no l) =
          let q : i + p + v ≡ i + p + p =
          next_unique O x n (i + p) (i + p + v) (i + p + p) m (next_again i p w (λ t b. g t (omega (arith, l))) (omega (arith, l))) in
          absurd (d (omega arith))

  -- A position at which the factor stands again next lists nothing.
  pub repeated_not_listed : (i p : ℕ) → NextSmaller O x n i (i + p) → Agree x i (i + p) p → i + p + p ≤ n →
      (bound s e q : ℕ) → ¬ ListedAt O x n bound i s e q
  repeated_not_listed i p w g h bound s e q r =
      let c : i + p ≡ i + q = next_unique O x n i (i + p) (i + q) w r.next in
      let a : i + p ≤ e = omega (arith, r.extent.high) in
      let b : i + (e - (i + p)) + q ≡ e = omega arith in
      let d : i + p + (e - (i + p)) ≡ e = omega arith in
      r.extent.right_stops (i + (e - (i + p))) (sym b) (omega (arith, r.last))
      (g (e - (i + p)) (omega (arith, r.last)) ∙ ap x d)

  -- What a position lists is a run.
  pub listed_run : (bound i s e p : ℕ) → ListedAt O x n bound i s e p → SpanRun x n s e p
  listed_run bound i s e p r =
      record {
        positive = omega (arith, r.next.after);
        twice = r.twice;
        inside = m.inside;
        period = λ t a b. at t a b (dec_lt t i);
        smallest = shorter;
        no_left = m.left_stops;
        no_right = m.right_stops;
      }
    where
      m : Extent x n i s e p
      m = r.extent

      at : (t : ℕ) → s ≤ t → t + p < e → Dec (t < i) → x t ≡ x (t + p)
      at t a b (yes l) = m.left t a l
      at t a b (no l) = m.right t (omega (arith, l)) b

      -- a Lyndon word has no period shorter than itself
      shorter : (q : ℕ) → 0 < q → q < p → ¬ SpanPeriod x s e q
      shorter q a b h =
          let w : BelowWithin O x i (i + q) (i + p) =
          (next_lyndon O x n i (i + p) r.next).below (i + q) (omega arith) (omega arith) in
          let d : i + w.offset + q ≡ i + q + w.offset = omega arith in
          w.smaller.0 (h (i + w.offset) (omega (arith, m.low)) (omega (arith, m.high, w.inside)) ∙ ap x d)

  -- The suffixes at a root and a period later differ where the period ends.
  root_drops : (s e p i : ℕ) → SpanRun x n s e p → LastRoot O x s e p i → Falls O x n e p → SuffixLess O x n (i + p) i
  root_drops s e p i r w f = go f
    where
      d : ℕ
      d = e - (i + p)

      is : i + p + d ≡ e
      is = omega (arith, w.high)

      agree : Agree x (i + p) i d
      agree u l =
          let c : i + u + p ≡ i + p + u = omega arith in
          sym (r.period (i + u) (omega (arith, w.low)) (omega arith) ∙ ap x c)

      go : Falls O x n e p → SuffixLess O x n (i + p) i
      go (at_end h) = ends d (omega (arith, is)) (omega (arith, is, r.positive)) agree
      go (by_letter h t c v) =
          let a : e ≡ i + p + d = omega (arith, is) in
          let b : t ≡ i + d = omega (arith, is) in
          parts d (omega (arith, is)) (omega (arith, is, r.positive)) agree
          (subst (λ (k : ℕ). Smaller O (x (i + p + d)) (x k)) b (subst (λ (k : ℕ). Smaller O (x k) (x t)) a v))

  -- A run is listed at its last root, where its end falls.
  pub root_listed : (bound s e p i : ℕ) → SpanRun x n s e p → LastRoot O x s e p i → Falls O x n e p → e < bound → ListedAt O x n bound i s e p
  root_listed bound s e p i r w f l =
      record {
        next = lyndon_next O x n i (i + p) w.lyndon (omega (arith, w.high, r.inside)) (root_drops s e p i r w f);
        extent =
            record {
              low = w.low;
              high = w.high;
              inside = r.inside;
              left = λ t a b. r.period t a (omega (arith, w.high));
              right = λ t a b. r.period t (omega (arith, w.low)) b;
              left_stops = r.no_left;
              right_stops = r.no_right;
            };
        twice = r.twice;
        last = w.last;
        early = l;
      }

  -- Where a listed span ends inside the text, the letter there is smaller than the one that continues the period.
  pub listed_falls : (bound i s e p : ℕ) → ListedAt O x n bound i s e p → e < n → (t : ℕ) → e ≡ t + p → Smaller O (x e) (x t)
  listed_falls bound i s e p r h t c = go r.next.drops
    where
      m : Extent x n i s e p
      m = r.extent

      d : ℕ
      d = e - (i + p)

      is : i + p + d ≡ e
      is = omega (arith, m.high)

      it : i + d ≡ t
      it = omega (arith, m.high)

      -- no agreement reaches past the end
      past : (u : ℕ) → d < u → ¬ Agree x (i + p) i u
      past u l g = m.right_stops t c h (sym (ap x it) ∙ sym (g d l) ∙ ap x is)

      go : SuffixLess O x n (i + p) i → Smaller O (x e) (x t)
      go (ends u a b g) = absurd (past u (omega (arith, is)) g)
      go (parts u a b g v) = at (dec_lt d u) (dec_lt u d)
        where
          at : Dec (d < u) → Dec (u < d) → Smaller O (x e) (x t)
          at (yes l) q = absurd (past u l g)
          at (no l) (yes q) =
              let k : i + u + p ≡ i + p + u = omega arith in
              absurd (v.0 (sym (m.right (i + u) (omega arith) (omega (arith, is)) ∙ ap x k)))
          at (no l) (no q) =
              let a' : i + p + u ≡ e = omega (arith, l, q, is) in
              let b' : i + u ≡ t = omega (arith, l, q, it) in
              subst (λ (k : ℕ). Smaller O (x e) (x k)) b' (subst (λ (k : ℕ). Smaller O (x k) (x (i + u))) a' v)

  -- A position has one distance to its next smaller suffix, and that period one extent.
  pub measure_unique : (i s e p s' e' p' : ℕ) → NextSmaller O x n i (i + p) → Extent x n i s e p → NextSmaller O x n i (i + p') →
      Extent x n i s' e' p' → (s ≡ s') × (e ≡ e') × (p ≡ p')
  measure_unique i s e p s' e' p' w m w' m' =
      let c : i + p ≡ i + p' = next_unique O x n i (i + p) (i + p') w w' in
      let d : p' ≡ p = omega arith in
      let u = extent_unique x n i s e p s' e' m (subst (λ (q : ℕ). Extent x n i s' e' q) d m') in
      (u.0, u.1, sym d)

  -- A position lists one run at most.
  pub listed_unique : (bound i s e p bound' s' e' p' : ℕ) → ListedAt O x n bound i s e p → ListedAt O x n bound' i s' e' p' →
      (s ≡ s') × (e ≡ e') × (p ≡ p')
  listed_unique bound i s e p bound' s' e' p' r r' = measure_unique i s e p s' e' p' r.next r.extent r'.next r'.extent

  -- No later position lists the same run under the same order.
  listed_no_later : (bound i bound' i' s e p : ℕ) → ListedAt O x n bound i s e p → ListedAt O x n bound' i' s e p → i' ≤ i
  listed_no_later bound i bound' i' s e p r r' = go (dec_lt i i')
    where
      go : Dec (i < i') → i' ≤ i
      go (yes l) =
          let c : i' + p ≤ i + p =
          next_nests O x n i (i + p) i' (i' + p) r.next l (omega (arith, r.last, r'.extent.high)) r'.next in
          omega arith
      go (no l) = omega (arith, l)

  -- Under one order a run is listed at one position only.
  pub listed_once : (bound i bound' i' s e p : ℕ) → ListedAt O x n bound i s e p → ListedAt O x n bound' i' s e p → i ≡ i'
  listed_once bound i bound' i' s e p r r' =
      omega (arith, listed_no_later bound i bound' i' s e p r r', listed_no_later bound' i' bound i s e p r' r)

  -- The last root of a run is not its start.
  pub listed_after_start : (bound i s e p : ℕ) → ListedAt O x n bound i s e p → s < i
  listed_after_start bound i s e p r = omega (arith, r.twice, r.last)

  -- Letters compared under an order are compared under the reversed one.
  pub reversed_compared : AllCompared O x n → AllCompared (reversed O) x n
  reversed_compared compared i j a b =
      let c = compared i j a b in
      (turned c.0, turned_means O c.0 (x i) (x j) c.1)

  -- A run whose end falls under an order is listed under it.
  pub falls_listed : AllCompared O x n → (bound s e p : ℕ) → SpanRun x n s e p → Falls O x n e p → e < bound →
      (i : ℕ) × ListedAt O x n bound i s e p
  falls_listed compared bound s e p r f l =
      let w = last_root O x n s e p compared r in
      (w.0, root_listed bound s e p w.0 r w.1 f l)
