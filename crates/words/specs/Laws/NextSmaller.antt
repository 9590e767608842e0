-- The longest Lyndon word at a position ends at the next smaller suffix; spans nest; neighbours join exactly when the left one is smaller.
-- Assumes nothing.
use Rattle.std.specs.Prelude.{◌≡◌, ℕ, ◌+◌, ◌-◌, ◌<◌, ◌≤◌}
use Rattle.std.proofs.Common.{sym, ap, subst, ◌∙◌, arith}
use Rattle.std.proofs.Math.Decide.{dec_lt, ℕ_discrete}
use Rattle.words.specs.Letters.{Letters, Smaller}
use Rattle.words.specs.Laws.Letters.{smaller_trans}
use Rattle.words.specs.Laws.Position.{Agree, BelowFrom, BelowWithin, SpanLyndon, SpanLess, differs, shorter}
use Rattle.words.specs.Laws.SuffixOrder.{SuffixLess, ends, parts, NextSmaller, earlier_difference, agree_less, agree_join, suffix_irrefl}
use Rattle.words.specs.Laws.SuffixOrder.{suffix_trans, suffix_asym, below_suffix, suffix_cancel, suffix_prepend}

module _ {ℓ κ} {A : Type ℓ} (O : Letters {ℓ, κ} A) (x : ℕ → A) (n : ℕ) where
  -- The empty suffix is the smallest one.
  pub empty_suffix_less : (i : ℕ) → i < n → SuffixLess O x n n i
  empty_suffix_less i l = ends 0 (omega arith) (omega arith) (λ k h. absurd (omega arith))

  pub lyndon_below : (i e : ℕ) → SpanLyndon O x i e → e ≤ n → (k : ℕ) → i < k → k < e → SuffixLess O x n i k
  lyndon_below i e w h k p q = below_suffix O x n i k e (omega arith) h (w.below k p q)

  -- The span up to the next smaller suffix is a Lyndon word.
  pub next_lyndon : (i e : ℕ) → NextSmaller O x n i e → SpanLyndon O x i e
  next_lyndon i e w = record { non_empty = w.after; below = λ k p q. within k p q (w.between k p q) }
    where
      within : (k : ℕ) → i < k → k < e → SuffixLess O x n i k → BelowWithin O x i k e
      within k p q (ends d a b g) = absurd (omega arith)
      within k p q (parts d a b g s) = go (dec_lt (k + d) e)
        where
          go : Dec (k + d < e) → BelowWithin O x i k e
          go (yes l) = record { offset = d; inside = l; agree = g; smaller = s }
          go (no l) =
              let m : ℕ = e - k in
              let t : k + m ≡ e = omega arith in
              let c : SuffixLess O x n (i + m) (k + m) =
              suffix_cancel O x n i k m (agree_less x i k d m g (omega (arith, l))) (omega (arith, w.inside)) (omega (arith, w.inside)) (parts d a b g s) in
              let c' : SuffixLess O x n (i + m) e = subst (λ (z : ℕ). SuffixLess O x n (i + m) z) t c in
              absurd
              (suffix_irrefl O x n i
              (suffix_trans O x n i (i + m) i (w.between (i + m) (omega arith) (omega arith))
              (suffix_trans O x n (i + m) e i c' w.drops)))

  -- No Lyndon word from i reaches past the next smaller suffix.
  pub lyndon_before_next : (i b e : ℕ) → SpanLyndon O x i b → b ≤ n → NextSmaller O x n i e → b ≤ e
  lyndon_before_next i b e w h m = go (dec_lt e b)
    where
      go : Dec (e < b) → b ≤ e
      go (yes l) = absurd (suffix_asym O x n i e (lyndon_below i b w h e m.after l) m.drops)
      go (no l) = omega (arith, l)

  pub next_unique : (i e f : ℕ) → NextSmaller O x n i e → NextSmaller O x n i f → e ≡ f
  next_unique i e f p q =
      let a : e ≤ f = lyndon_before_next i e f (next_lyndon i e p) p.inside q in
      let b : f ≤ e = lyndon_before_next i f e (next_lyndon i f q) q.inside p in
      omega arith

  -- Spans nest: a span that starts inside another ends inside it.
  pub next_nests : (i e k f : ℕ) → NextSmaller O x n i e → i < k → k < e → NextSmaller O x n k f → f ≤ e
  next_nests i e k f p a b q = go (dec_lt e f)
    where
      go : Dec (e < f) → f ≤ e
      go (yes l) = absurd (suffix_asym O x n k e (q.between e b l) (suffix_trans O x n e i k p.drops (p.between k a b)))
      go (no l) = omega (arith, l)

  -- A Lyndon word whose end has a smaller suffix ends at the next smaller suffix.
  pub lyndon_next : (i e : ℕ) → SpanLyndon O x i e → e ≤ n → SuffixLess O x n e i → NextSmaller O x n i e
  lyndon_next i e w h d = record { after = w.non_empty; inside = h; drops = d; between = lyndon_below i e w h }

  -- u = x[i..e), a Lyndon word or not, and v = x[e..f) up to the next smaller suffix. If u is smaller than v, the suffix at i is smaller
  -- than that at e.
  pub less_suffix : (i e f : ℕ) → i < e → NextSmaller O x n e f → SpanLess O x i e e f → SuffixLess O x n i e
  less_suffix i e f l m (differs d p q g s) = parts d (omega (arith, m.inside)) (omega (arith, m.inside)) g s
  less_suffix i e f l m (shorter d p q g) =
      suffix_prepend O x n i e d g
      (subst (λ (k : ℕ). SuffixLess O x n k (e + d)) (sym p) (m.between (e + d) (omega arith) q))

  -- Where the suffixes at i and e first differ at d, past the end f of v, and i has the smaller letter, the suffix at f is above that at e.
  agreement_past_next : (i e f d : ℕ) → SpanLyndon O x i e → e < f → i + (f - e) < e → f ≤ e + d → e + d < n → Agree x i e d →
      Smaller O (x (i + d)) (x (e + d)) → SuffixLess O x n e f
  agreement_past_next i e f d w l h r b g s = go (dec_lt k₀ j) (ℕ_discrete k₀ j)
    where
      t : ℕ
      t = i + (f - e)

      j : ℕ
      j = d - (f - e)

      lw : BelowWithin O x i t e
      lw = w.below t (omega arith) h

      k₀ : ℕ
      k₀ = lw.offset

      to_t : Agree x f t j
      to_t k q =
          let a : f + k ≡ e + ((f - e) + k) = omega arith in
          let c : t + k ≡ i + ((f - e) + k) = omega arith in
          ap x a ∙ sym (g ((f - e) + k) (omega arith)) ∙ sym (ap x c)

      -- below both offsets all four places have one letter
      four : (m : ℕ) → m ≤ k₀ → m ≤ j → Agree x e f m
      four m p q k r' = sym (g k (omega arith)) ∙ lw.agree k (omega arith) ∙ sym (to_t k (omega arith))

      last : x (f + j) ≡ x (e + d)
      last = let a : f + j ≡ e + d = omega arith in ap x a

      last_t : x (t + j) ≡ x (i + d)
      last_t = let a : t + j ≡ i + d = omega arith in ap x a

      go : Dec (k₀ < j) → Dec (k₀ ≡ j) → SuffixLess O x n e f
      go (yes p) q =
          parts k₀ (omega arith) (omega arith) (four k₀ (omega arith) (omega arith))
          (subst (λ (c : A). Smaller O c (x (f + k₀))) (g k₀ (omega arith))
          (subst (λ (c : A). Smaller O (x (i + k₀)) c) (sym (to_t k₀ p)) lw.smaller))
      go (no p) (yes q) =
          parts j (omega arith) (omega arith) (four j (omega arith) (omega arith))
          (subst (λ (c : A). Smaller O c (x (f + j))) (g j (omega arith))
          (subst (λ (c : A). Smaller O (x (i + j)) c) (sym last)
          (smaller_trans O (x (i + j)) (x (t + j)) (x (e + d)) (subst (λ (k : ℕ). Smaller O (x (i + k)) (x (t + k))) q lw.smaller)
          (subst (λ (c : A). Smaller O c (x (e + d))) (sym last_t) s))))
      go (no p) (no q) =
          let m : j < k₀ = omega (arith, p, q) in
          parts j (omega arith) (omega arith) (four j (omega arith) (omega arith))
          (subst (λ (c : A). Smaller O c (x (f + j))) (g j (omega arith))
          (subst (λ (c : A). Smaller O (x (i + j)) c) (sym last)
          (subst (λ (c : A). Smaller O c (x (e + d))) (sym (lw.agree j m ∙ last_t)) s)))

  -- And only then, where u is a Lyndon word.
  pub suffix_less : (i e f : ℕ) → SpanLyndon O x i e → NextSmaller O x n e f → SuffixLess O x n i e → SpanLess O x i e e f
  suffix_less i e f w m (ends d a b g) = absurd (omega (arith, w.non_empty))
  suffix_less i e f w m (parts d a b g s) = go (dec_lt (i + d) e) (dec_lt (e + d) f) (dec_lt (e + (e - i)) f)
    where
      l : e < f
      l = m.after

      -- v no longer than u, and all of v agrees with u
      never : f ≤ e + d → f ≤ e + (e - i) → ⊥
      never p q = case (dec_lt (i + (f - e)) e)
        where
          case : Dec (i + (f - e) < e) → ⊥
          case (yes h) = suffix_asym O x n f e m.drops (agreement_past_next i e f d w l h p b g s)
          case (no h) =
              let t : i + (f - e) ≡ e = omega (arith, h, l, w.non_empty) in
              let r : e + (f - e) ≡ f = omega (arith, l) in
              suffix_asym O x n f e m.drops
              (subst (λ (k : ℕ). SuffixLess O x n k f) t
              (subst (λ (k : ℕ). SuffixLess O x n (i + (f - e)) k) r
              (suffix_cancel O x n i e (f - e) (agree_less x i e d (f - e) g (omega arith)) (omega (arith, m.inside)) (omega (arith, m.inside))
              (parts d a b g s))))

      go : Dec (i + d < e) → Dec (e + d < f) → Dec (e + (e - i) < f) → SpanLess O x i e e f
      go (yes p) (yes q) r = differs d p q g s
      go (no p) q (yes r) = shorter (e - i) (omega (arith, w.non_empty)) r (agree_less x i e d (e - i) g (omega (arith, p, w.non_empty)))
      go (no p) q (no r) = absurd (never (omega (arith, p, r, w.non_empty)) (omega (arith, r)))
      go (yes p) (no q) r = absurd (never (omega (arith, q)) (omega (arith, p, q)))

  pub below_longer : (i j e f : ℕ) → e ≤ f → BelowWithin O x i j e → BelowWithin O x i j f
  below_longer i j e f h w =
      record { offset = w.offset; inside = omega (arith, w.inside); agree = w.agree; smaller = w.smaller }

  abbrev within_from : (i j e : ℕ) → BelowWithin O x i j e → BelowFrom O x i j
  within_from i j e w = record { offset = w.offset; agree = w.agree; smaller = w.smaller }

  -- Below a span, and that below another: the earlier of the two differences decides.
  pub below_trans : (i e k f : ℕ) → BelowWithin O x i e f → BelowWithin O x e k f → BelowWithin O x i k f
  below_trans i e k f p q =
      let w = earlier_difference O x i e k (within_from i e f p) (within_from e k f q) in
      record { offset = w.0.offset; inside = omega (arith, w.1, q.inside); agree = w.0.agree; smaller = w.0.smaller }

  -- A smaller span that is followed by a greater Lyndon word is below it by a letter inside.
  less_below : (i e f : ℕ) → i < e → SpanLyndon O x e f → SpanLess O x i e e f → BelowWithin O x i e f
  less_below i e f l w (differs d p q g s) = record { offset = d; inside = q; agree = g; smaller = s }
  less_below i e f l w (shorter d p q g) =
      let b : BelowWithin O x e (e + d) f = w.below (e + d) (omega arith) q in
      record {
        offset = d + b.offset;
        inside = omega (arith, b.inside);
        agree = agree_join x i e d b.offset g (subst (λ (z : ℕ). Agree x z (e + d) b.offset) (sym p) b.agree);
        smaller =
            let a : e + b.offset ≡ i + (d + b.offset) = omega arith in
            let c : e + d + b.offset ≡ e + (d + b.offset) = omega arith in
            subst (λ (z : ℕ). Smaller O (x z) (x (e + (d + b.offset)))) a
            (subst (λ (z : ℕ). Smaller O (x (e + b.offset)) (x z)) c b.smaller);
      }

  -- Lyndon words u < v make a Lyndon word u·v (document 002, "Lyndon arrays (4)", 1; document 000, Proposition 2).
  pub lyndon_join : (i e f : ℕ) → SpanLyndon O x i e → SpanLyndon O x e f → SpanLess O x i e e f → SpanLyndon O x i f
  lyndon_join i e f u v h = record { non_empty = omega (arith, u.non_empty, v.non_empty); below = λ k p q. go k p q (dec_lt k e) (dec_lt e k) }
    where
      seam : BelowWithin O x i e f
      seam = less_below i e f u.non_empty v h

      go : (k : ℕ) → i < k → k < f → Dec (k < e) → Dec (e < k) → BelowWithin O x i k f
      go k p q (yes l) m = below_longer i k e f (omega (arith, v.non_empty)) (u.below k p l)
      go k p q (no l) (yes m) = below_trans i e k f seam (v.below k m q)
      go k p q (no l) (no m) =
          let t : e ≡ k = omega (arith, l, m) in
          subst (λ (z : ℕ). BelowWithin O x i z f) t seam
