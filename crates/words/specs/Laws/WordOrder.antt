-- The order of words is total: no word is smaller than itself, of two different words one is smaller and not both, and smaller carries
-- on. So u ≥ v is the same as: u is not smaller than v.
-- Assumes nothing.
use Rattle.std.specs.Prelude.{◌≡◌, refl, ◌⊎◌, ◌↔◌, length, drop, get_or}
use Rattle.std.proofs.Common.{sym, ap, subst, ◌∙◌, inl, inr, arith}
use mathlib.Core.List.{List, [], ◌∷◌, ◌++◌, cons≢nil}
use Rattle.words.specs.Letters.{Letters, Smaller}
use Rattle.words.specs.Decided.{Decided, below, same, above}
use Rattle.words.specs.Word.{Less}
use Rattle.words.specs.Laws.Letters.{Compared, compared_irrefutable}

-- Two words that are not empty and equal begin with equal letters.
heads {ℓ} : {A : Type ℓ} {a b : A} {u v : List A} → a ∷ u ≡ b ∷ v → a ≡ b
heads {A = A} {a = a} e = ap (λ (w : List A). get_or w 0 a) e

-- And go on with equal words.
tails {ℓ} : {A : Type ℓ} {a b : A} {u v : List A} → a ∷ u ≡ b ∷ v → u ≡ v
tails {A = A} e = ap (λ (w : List A). drop 1 w) e

module _ {ℓ κ} {A : Type ℓ} {O : Letters {ℓ, κ} A} where
  -- The empty word is smaller than every other.
  pub nil_less : (b : A) (v : List A) → Less O [] (b ∷ v)
  nil_less b v = inr (record { rest = b ∷ v; more = cons≢nil; joined = refl })

  -- A word whose first letter is smaller.
  pub head_less : {a b : A} (u v : List A) → Smaller O a b → Less O (a ∷ u) (b ∷ v)
  head_less {a} {b} u v h =
      inl (record { r = []; s = u; t = v; a = a; b = b; left = refl; right = refl; smaller = h })

  -- An equal letter in front.
  pub cons_less : {a b : A} {u v : List A} → a ≡ b → Less O u v → Less O (a ∷ u) (b ∷ v)
  cons_less {a} e (inl h) =
      inl
      (record {
        r = a ∷ h.r;
        s = h.s;
        t = h.t;
        a = h.a;
        b = h.b;
        left = cc h.left;
        right = cc h.right;
        smaller = h.smaller;
      })
  cons_less e (inr h) = inr (record { rest = h.rest; more = h.more; joined = cc h.joined })

module _ {ℓ κ} {A : Type ℓ} (O : Letters {ℓ, κ} A) where
  -- Nothing is smaller than the empty word.
  not_less_nil : (u : List A) → ¬ Less O u []
  not_less_nil u (inl h) = go h.r h.right
    where
      go : (r : List A) → [] ≡ r ++ (h.b ∷ h.t) → ⊥
      go [] e = omega (arith, ap length e)
      go (c ∷ r) e = omega (arith, ap length e)
  not_less_nil u (inr h) = go u h.rest h.more h.joined
    where
      go : (w t : List A) → ¬ (t ≡ []) → [] ≡ w ++ t → ⊥
      go [] t m e = m (sym e)
      go (c ∷ w) t m e = omega (arith, ap length e)

  -- Words that are not empty: the first letter is smaller, or it is the same and the rest is smaller.
  less_cons : (a b : A) (u v : List A) → Less O (a ∷ u) (b ∷ v) → Smaller O a b ⊎ ((a ≡ b) × Less O u v)
  less_cons a b u v (inl h) = go h.r h.left h.right
    where
      go : (r : List A) → a ∷ u ≡ r ++ (h.a ∷ h.s) → b ∷ v ≡ r ++ (h.b ∷ h.t) → Smaller O a b ⊎ ((a ≡ b) × Less O u v)
      go [] p q =
          inl
          (subst (λ (c : A). Smaller O c b) (sym (heads p)) (subst (λ (c : A). Smaller O h.a c) (sym (heads q)) h.smaller))
      go (c ∷ r) p q =
          inr (
            heads p ∙ sym (heads q),
            inl (record { r = r; s = h.s; t = h.t; a = h.a; b = h.b; left = tails p; right = tails q; smaller = h.smaller }),
          )
  less_cons a b u v (inr h) =
      inr (sym (heads h.joined), inr (record { rest = h.rest; more = h.more; joined = tails h.joined }))

  -- No two words are smaller than each other.
  pub less_asymmetric : (u v : List A) → Less O u v → ¬ Less O v u
  less_asymmetric u [] h k = not_less_nil u h
  less_asymmetric [] (b ∷ v) h k = not_less_nil (b ∷ v) k
  less_asymmetric (a ∷ u) (b ∷ v) h k = go (less_cons a b u v h) (less_cons b a v u k) (less_asymmetric u v)
    where
      go : Smaller O a b ⊎ ((a ≡ b) × Less O u v) → Smaller O b a ⊎ ((b ≡ a) × Less O v u) → (Less O u v → ¬ Less O v u) → ⊥
      go (inl s) (inl t) rest = O.not_both a b s.0 (s.1, t.1)
      go (inl s) (inr t) rest = s.0 (sym t.0)
      go (inr s) (inl t) rest = t.0 (sym s.0)
      go (inr s) (inr t) rest = rest s.1 t.1

  -- No word is smaller than itself.
  pub less_irreflexive : (u : List A) → ¬ Less O u u
  less_irreflexive u h = less_asymmetric u u h h

  smaller_transitive : (a b c : A) → Smaller O a b → Smaller O b c → Smaller O a c
  smaller_transitive a b c s t =
      (λ e. O.not_both a b s.0 (s.1, subst (λ (d : A). O.Before b d) (sym e) t.1), O.chain a b c s.1 t.1)

  -- A word smaller than a second is smaller than all that the second is smaller than.
  pub less_transitive : (u v w : List A) → Less O u v → Less O v w → Less O u w
  less_transitive u [] w h k = absurd (not_less_nil u h)
  less_transitive u (b ∷ v) [] h k = absurd (not_less_nil (b ∷ v) k)
  less_transitive [] (b ∷ v) (c ∷ w) h k = nil_less c w
  less_transitive (a ∷ u) (b ∷ v) (c ∷ w) h k = go (less_cons a b u v h) (less_cons b c v w k) (less_transitive u v w)
    where
      go : Smaller O a b ⊎ ((a ≡ b) × Less O u v) → Smaller O b c ⊎ ((b ≡ c) × Less O v w) → (Less O u v → Less O v w → Less O u w)
          → Less O (a ∷ u) (c ∷ w)
      go (inl s) (inl t) rest = head_less u w (smaller_transitive a b c s t)
      go (inl s) (inr t) rest = head_less u w (subst (λ (d : A). Smaller O a d) t.0 s)
      go (inr s) (inl t) rest = head_less u w (subst (λ (d : A). Smaller O d c) (sym s.0) t)
      go (inr s) (inr t) rest = cons_less (s.0 ∙ t.0) (rest s.1 t.1)

  -- One of three, for words.
  abbrev pub WordsCompared : List A → List A → Type (ℓ ⊔ κ)
  WordsCompared u v = Less O u v ⊎ (u ≡ v) ⊎ Less O v u

  word_step : (a b : A) (u v : List A) → Compared O a b → WordsCompared u v → WordsCompared (a ∷ u) (b ∷ v)
  word_step a b u v (below, m) w = inl (head_less u v m)
  word_step a b u v (above, m) w = inr (inr (head_less v u m))
  word_step a b u v (same, m) (inl h) = inl (cons_less m.lower h)
  word_step a b u v (same, m) (inr (inl e)) = inr (inl (λ i. m.lower i ∷ e i))
  word_step a b u v (same, m) (inr (inr h)) = inr (inr (cons_less (sym m.lower) h))

  -- Where letters are compared, so are words.
  pub words_compared : ((a b : A) → Compared O a b) → (u v : List A) → WordsCompared u v
  words_compared c [] [] = inr (inl refl)
  words_compared c [] (b ∷ v) = inl (nil_less b v)
  words_compared c (a ∷ u) [] = inr (inr (nil_less a u))
  words_compared c (a ∷ u) (b ∷ v) = word_step a b u v (c a b) (words_compared c u v)

  -- That two words are compared cannot be refuted, whatever the letters.
  pub words_irrefutable : (u v : List A) → ¬ ¬ WordsCompared u v
  words_irrefutable [] [] never = never (inr (inl refl))
  words_irrefutable [] (b ∷ v) never = never (inl (nil_less b v))
  words_irrefutable (a ∷ u) [] never = never (inr (inr (nil_less a u)))
  words_irrefutable (a ∷ u) (b ∷ v) never =
      compared_irrefutable O a b (λ c. words_irrefutable u v (λ w. never (word_step a b u v c w)))

  not_less : (u v : List A) → (u ≡ v) ⊎ Less O v u → ¬ Less O u v
  not_less u v (inl e) h = less_irreflexive v (subst (λ (w : List A). Less O w v) e h)
  not_less u v (inr k) h = less_asymmetric u v h k

  -- "Not smaller" is "equal or greater": for all letters, up to what cannot be refuted.
  pub not_less_irrefutable : (u v : List A) → (¬ Less O u v) ↔ (¬ ¬ ((u ≡ v) ⊎ Less O v u))
  not_less_irrefutable u v = (λ n never. words_irrefutable u v (λ w. never (go n w)), λ h l. h (λ w. not_less u v w l))
    where
      go : ¬ Less O u v → WordsCompared u v → (u ≡ v) ⊎ Less O v u
      go n (inl h) = absurd (n h)
      go n (inr w) = w

-- "Not smaller" is "equal or greater", for letters whose comparisons are decided.
pub not_less_exactly {ℓ κ} : {A : Type ℓ} {O : Letters {ℓ, κ} A} (D : Decided O) (u v : List A) → (¬ Less O u v) ↔ ((u ≡ v) ⊎ Less O v u)
not_less_exactly {O = O} D u v = (λ n. go n (words_compared O (λ a b. (D.compare a b, D.right a b)) u v), not_less O u v)
  where
    go : ¬ Less O u v → WordsCompared O u v → (u ≡ v) ⊎ Less O v u
    go n (inl h) = absurd (n h)
    go n (inr w) = w
