-- A Lyndon word repeated: what the letter behind the repetition makes of it, and which Lyndon words end inside it.
-- Assumes nothing.
use Rattle.std.specs.Prelude.{◌≡◌, refl, ◌⊎◌, ℕ, zero, suc, ◌+◌, ◌-◌, ◌<◌, ◌≤◌}
use Rattle.std.proofs.Common.{sym, ap, subst, ◌∙◌, inl, inr, arith}
use Rattle.std.proofs.Math.Decide.{dec_lt}
use Rattle.words.specs.Letters.{Letters, Smaller}
use Rattle.words.specs.Laws.Letters.{smaller_asym, smaller_trans}
use Rattle.words.specs.Laws.Periods.{period_longer}
use Rattle.words.specs.Laws.Position.{Agree, BelowWithin, SpanLyndon}
use Rattle.words.specs.Laws.SuffixOrder.{SuffixLess, ends, parts, NextSmaller}
use Rattle.words.specs.Laws.NextSmaller.{lyndon_next}

-- The span from h to e is the Lyndon word from h to h + p, repeated: letters p apart are the same. The last copy may be cut short.
pub record Repetition {ℓ κ} {A : Type ℓ} (O : Letters {ℓ, κ} A) (x : ℕ → A) (h p e : ℕ) : Type (ℓ ⊔ κ) where
  pub lyndon : SpanLyndon O x h (h + p)
  pub whole : h + p ≤ e
  pub period : (t : ℕ) → h ≤ t → t + p < e → x t ≡ x (t + p)

-- What has period p up to e cannot be continued past e as a repetition or a longer Lyndon word: the text of n letters ends at e, or the
-- letter at e is smaller than the one p places before it.
abbrev pub Stops {ℓ κ} : {A : Type ℓ} → Letters {ℓ, κ} A → (ℕ → A) → ℕ → ℕ → ℕ → Type (ℓ ⊔ κ)
Stops O x n p e = (e ≡ n) ⊎ ((i : ℕ) × (i + p ≡ e) × (e < n) × Smaller O (x e) (x i))

module _ {ℓ κ} {A : Type ℓ} (O : Letters {ℓ, κ} A) (x : ℕ → A) where
  -- One letter is a Lyndon word.
  pub letter_lyndon : (a : ℕ) → SpanLyndon O x a (suc a)
  letter_lyndon a = record { non_empty = omega arith; below = λ k p q. absurd (omega arith) }

  -- A span with the letters of a Lyndon word is one.
  pub lyndon_copy : (a b c d m : ℕ) → a + m ≡ b → c + m ≡ d → Agree x a c m → SpanLyndon O x a b → SpanLyndon O x c d
  lyndon_copy a b c d m e f g w = record { non_empty = omega (arith, w.non_empty); below = λ k p q. below_copy k p q }
    where
      below_copy : (k : ℕ) → c < k → k < d → BelowWithin O x c k d
      below_copy k p q =
          let k' : ℕ = a + (k - c) in
          let r : BelowWithin O x a k' b = w.below k' (omega arith) (omega arith) in
          let o : ℕ = r.offset in
          let l : (k - c) + o < m = omega (arith, r.inside) in
          let at : (t : ℕ) → t ≤ o → x (k' + t) ≡ x (k + t) =
          λ t s.
          let u : k' + t ≡ a + ((k - c) + t) = omega arith in
          let v : k + t ≡ c + ((k - c) + t) = omega arith in
          ap x u ∙ g ((k - c) + t) (omega arith) ∙ sym (ap x v) in
          record {
            offset = o;
            inside = omega arith;
            agree = λ t s. sym (g t (omega arith)) ∙ r.agree t s ∙ at t (omega arith);
            smaller =
                subst (λ (y : A). Smaller O y (x (k + o))) (g o (omega arith))
                (subst (λ (y : A). Smaller O (x (a + o)) y) (at o (omega arith)) r.smaller);
          }

  -- One letter, once.
  pub repetition_start : (h : ℕ) → Repetition O x h 1 (suc h)
  repetition_start h =
      let e : suc h ≡ h + 1 = omega arith in
      record {
        lyndon = subst (λ (b : ℕ). SpanLyndon O x h b) e (letter_lyndon h);
        whole = omega arith;
        period = λ t a b. absurd (omega arith);
      }

  module _ (h p e : ℕ) (r : Repetition O x h p e) where
    positive : 0 < p
    positive = omega (arith, r.lyndon.non_empty)

    -- A letter equal to the one a period before it continues the repetition.
    pub repetition_longer : (i : ℕ) → i + p ≡ e → x i ≡ x e → Repetition O x h p (suc e)
    repetition_longer i q s =
        record { lyndon = r.lyndon; whole = omega (arith, r.whole); period = period_longer x h e p i r.period q s }

    below_extended : (i : ℕ) → i + p ≡ e → Smaller O (x i) (x e) → (fuel k : ℕ) → k ≤ fuel → h < k → k < suc e → BelowWithin O x h k (suc e)
    below_extended i q s zero k a b c = absurd (omega arith)
    below_extended i q s (suc fuel) k a b c = place (dec_lt k (h + p)) (dec_lt (h + p) k) (below_extended i q s fuel (k - p))
      where
        -- the suffix at k, with its first difference from the word that was found for the suffix a period before it
        later : h + p < k → BelowWithin O x h (k - p) (suc e) → BelowWithin O x h k (suc e)
        later l w = go (dec_lt (k + w.offset) e)
          where
            d : ℕ
            d = w.offset

            shift : (t : ℕ) → k + t < e → x (k - p + t) ≡ x (k + t)
            shift t m =
                let u : k - p + t + p ≡ k + t = omega arith in
                r.period (k - p + t) (omega arith) (omega arith) ∙ ap x u

            go : Dec (k + d < e) → BelowWithin O x h k (suc e)
            go (yes m) =
                record {
                  offset = d;
                  inside = omega arith;
                  agree = λ t v. w.agree t v ∙ shift t (omega arith);
                  smaller = subst (λ (y : A). Smaller O (x (h + d)) y) (shift d m) w.smaller;
                }
            go (no m) =
                let o : ℕ = e - k in
                let f : k + o ≡ e = omega arith in
                let g : k - p + o ≡ i = omega arith in
                record {
                  offset = o;
                  inside = omega arith;
                  agree = λ t v. w.agree t (omega arith) ∙ shift t (omega arith);
                  smaller = subst (λ (y : ℕ). Smaller O (x (h + o)) (x y)) (sym f) (above_prefix o f g (dec_lt o d));
                }
              where
                above_prefix : (o : ℕ) → k + o ≡ e → k - p + o ≡ i → Dec (o < d) → Smaller O (x (h + o)) (x e)
                above_prefix o f g (yes v) = subst (λ (y : A). Smaller O y (x e)) (sym (w.agree o v ∙ ap x g)) s
                above_prefix o f g (no v) =
                    let u : d ≡ o = omega (arith, m, v) in
                    smaller_trans O (x (h + o)) (x i) (x e)
                    (subst (λ (y : ℕ). Smaller O (x (h + o)) (x y)) g
                    (subst (λ (y : ℕ). Smaller O (x (h + y)) (x (k - p + y))) u w.smaller))
                    s

        place : Dec (k < h + p) → Dec (h + p < k) → (k - p ≤ fuel → h < k - p → k - p < suc e → BelowWithin O x h (k - p) (suc e)) →
            BelowWithin O x h k (suc e)
        place (yes l) m rest =
            let w : BelowWithin O x h k (h + p) = r.lyndon.below k b l in
            record { offset = w.offset; inside = omega (arith, w.inside, r.whole); agree = w.agree; smaller = w.smaller }
        place (no l) (yes m) rest = later m (rest (omega (arith, positive)) (omega arith) (omega arith))
        place (no l) (no m) rest =
            let o : ℕ = e - k in
            let f : e ≡ k + o = omega arith in
            let g : i ≡ h + o = omega arith in
            record {
              offset = o;
              inside = omega arith;
              agree =
                  λ t v.
                  let u : h + t + p ≡ k + t = omega arith in
                  r.period (h + t) (omega arith) (omega arith) ∙ ap x u;
              smaller =
                  subst (λ (y : ℕ). Smaller O (x y) (x (k + o))) g (subst (λ (y : ℕ). Smaller O (x i) (x y)) f s);
            }

    -- A letter greater than the one a period before it makes the whole a Lyndon word (document 000, Proposition 2; Duval).
    pub lyndon_extended : (i : ℕ) → i + p ≡ e → Smaller O (x i) (x e) → SpanLyndon O x h (suc e)
    lyndon_extended i q s =
        record {
          non_empty = omega (arith, r.whole);
          below = λ k a b. below_extended i q s k k (omega arith) a b;
        }

    pub repetition_extended : (i m : ℕ) → i + p ≡ e → Smaller O (x i) (x e) → h + m ≡ suc e → Repetition O x h m (suc e)
    repetition_extended i m q s f =
        record {
          lyndon = subst (λ (b : ℕ). SpanLyndon O x h b) (sym f) (lyndon_extended i q s);
          whole = omega arith;
          period = λ t a b. absurd (omega arith);
        }

    -- The repetition without its first copy.
    pub repetition_next : h + p + p ≤ e → Repetition O x (h + p) p e
    repetition_next l =
        record {
          lyndon =
              lyndon_copy h (h + p) (h + p) (h + p + p) p refl refl
              (λ k m. let u : h + k + p ≡ h + p + k = omega arith in r.period (h + k) (omega arith) (omega arith) ∙ ap x u) r.lyndon;
          whole = l;
          period = λ t a b. r.period t (omega arith) b;
        }

    -- Where the repetition stops, its first copy ends at the next smaller suffix.
    pub repetition_ends : (n : ℕ) → e ≤ n → Stops O x n p e → NextSmaller O x n h (h + p)
    repetition_ends n f s = lyndon_next O x n h (h + p) r.lyndon (omega (arith, r.whole)) (drops s)
      where
        d : ℕ
        d = e - (h + p)

        same : Agree x (h + p) h d
        same k l =
            let u : h + k + p ≡ h + p + k = omega arith in
            sym (r.period (h + k) (omega arith) (omega arith) ∙ ap x u)

        drops : Stops O x n p e → SuffixLess O x n (h + p) h
        drops (inl q) = ends d (omega (arith, r.whole)) (omega (arith, r.whole, positive)) same
        drops (inr (i, q, l, t)) =
            let u : e ≡ h + p + d = omega (arith, r.whole) in
            let v : i ≡ h + d = omega (arith, r.whole) in
            parts d (omega (arith, r.whole)) (omega (arith, r.whole, positive)) same
            (subst (λ (y : ℕ). Smaller O (x y) (x (h + d))) u (subst (λ (y : ℕ). Smaller O (x e) (x y)) v t))

    -- No Lyndon word that starts in the first copy ends behind it, inside the repetition.
    pub first_copy_left : (k b : ℕ) → h ≤ k → k < h + p → h + p < b → b ≤ e → ¬ SpanLyndon O x k b
    first_copy_left k b l m a f w = go (dec_lt h k)
      where
        c : BelowWithin O x k (h + p) b
        c = w.below (h + p) m a

        -- the second copy starts as the first one
        copy : (t : ℕ) → t ≤ c.offset → x (h + p + t) ≡ x (h + t)
        copy t u =
            let v : h + t + p ≡ h + p + t = omega arith in
            sym (r.period (h + t) (omega arith) (omega (arith, c.inside)) ∙ ap x v)

        above : Smaller O (x (k + c.offset)) (x (h + c.offset))
        above = subst (λ (y : A). Smaller O (x (k + c.offset)) y) (copy c.offset (omega arith)) c.smaller

        go : Dec (h < k) → ⊥
        go (no g) =
            let u : k ≡ h = omega arith in
            above.0 (ap (λ (y : ℕ). x (y + c.offset)) u)
        go (yes g) = order (dec_lt c.offset q.offset) (dec_lt q.offset c.offset)
          where
            q : BelowWithin O x h k (h + p)
            q = r.lyndon.below k g m

            order : Dec (c.offset < q.offset) → Dec (q.offset < c.offset) → ⊥
            order (yes u) v = above.0 (sym (q.agree c.offset u))
            order (no u) (yes v) = q.smaller.0 (sym (c.agree q.offset v ∙ copy q.offset (omega arith)))
            order (no u) (no v) =
                let f : q.offset ≡ c.offset = omega arith in
                smaller_asym O (x (k + c.offset)) (x (h + c.offset)) above
                (subst (λ (y : ℕ). Smaller O (x (h + y)) (x (k + y))) f q.smaller)
