-- The order of the suffixes of one text, and the next smaller suffix, which ends the longest Lyndon word.
-- Assumes nothing.
use Rattle.std.specs.Prelude.{◌≡◌, refl, ℕ, ◌+◌, ◌-◌, ◌<◌, ◌≤◌}
use Rattle.std.proofs.Common.{sym, ap, subst, ◌∙◌, arith}
use Rattle.std.proofs.Math.Decide.{dec_lt}
use Rattle.words.specs.Letters.{Letters, Smaller}
use Rattle.words.specs.Laws.Letters.{smaller_trans}
use Rattle.words.specs.Laws.Position.{Agree, BelowFrom, BelowWithin}

-- The suffix at i is smaller than the suffix at j, in a text of n letters: it ends first, or has the smaller letter where they first differ.
pub data SuffixLess {ℓ κ} {A : Type ℓ} (O : Letters {ℓ, κ} A) (x : ℕ → A) (n i j : ℕ) : Type (ℓ ⊔ κ) where
  ends : (d : ℕ) → i + d ≡ n → j + d < n → Agree x i j d → SuffixLess O x n i j
  parts : (d : ℕ) → i + d < n → j + d < n → Agree x i j d → Smaller O (x (i + d)) (x (j + d)) → SuffixLess O x n i j

-- The suffix at e is the next smaller one after i.
pub record NextSmaller {ℓ κ} {A : Type ℓ} (O : Letters {ℓ, κ} A) (x : ℕ → A) (n i e : ℕ) : Type (ℓ ⊔ κ) where
  pub after : i < e
  pub inside : e ≤ n
  pub drops : SuffixLess O x n e i
  pub between : (k : ℕ) → i < k → k < e → SuffixLess O x n i k

module _ {ℓ} {A : Type ℓ} (x : ℕ → A) where
  pub agree_sym : (i j d : ℕ) → Agree x i j d → Agree x j i d
  agree_sym i j d g k l = sym (g k l)

  pub agree_trans : (i j k d : ℕ) → Agree x i j d → Agree x j k d → Agree x i k d
  agree_trans i j k d g h t l = g t l ∙ h t l

  pub agree_less : (i j d e : ℕ) → Agree x i j d → e ≤ d → Agree x i j e
  agree_less i j d e g l k m = g k (omega arith)

  -- Agreement from m letters further on.
  pub agree_shift : (i j d m : ℕ) → Agree x i j d → (e : ℕ) → m + e ≤ d → Agree x (i + m) (j + m) e
  agree_shift i j d m g e l k h =
      let p : i + m + k ≡ i + (m + k) = omega arith in
      let q : j + m + k ≡ j + (m + k) = omega arith in
      ap x p ∙ g (m + k) (omega arith) ∙ sym (ap x q)

  -- Agreement over m letters and then over e more.
  pub agree_join : (i j m e : ℕ) → Agree x i j m → Agree x (i + m) (j + m) e → Agree x i j (m + e)
  agree_join i j m e g h k l = go (dec_lt k m)
    where
      go : Dec (k < m) → x (i + k) ≡ x (j + k)
      go (yes p) = g k p
      go (no p) =
          let a : i + k ≡ i + m + (k - m) = omega (arith, p) in
          let b : j + k ≡ j + m + (k - m) = omega (arith, p) in
          ap x a ∙ h (k - m) (omega (arith, p)) ∙ sym (ap x b)

module _ {ℓ κ} {A : Type ℓ} (O : Letters {ℓ, κ} A) (x : ℕ → A) where
  -- Below a second, and that below a third: the earlier of the two differences decides, so none later than the second one.
  pub earlier_difference : (i j k : ℕ) → BelowFrom O x i j → (q : BelowFrom O x j k) → (w : BelowFrom O x i k) × (w.offset ≤ q.offset)
  earlier_difference i j k p q = go (dec_lt c d) (dec_lt d c)
    where
      c : ℕ
      c = p.offset

      d : ℕ
      d = q.offset

      go : Dec (c < d) → Dec (d < c) → (w : BelowFrom O x i k) × (w.offset ≤ q.offset)
      go (yes l) m = (
        record {
          offset = c;
          agree = agree_trans x i j k c p.agree (agree_less x j k d c q.agree (omega arith));
          smaller = subst (λ (z : A). Smaller O (x (i + c)) z) (q.agree c l) p.smaller;
        },
        omega arith,
      )
      go (no l) (yes m) = (
        record {
          offset = d;
          agree = agree_trans x i j k d (agree_less x i j c d p.agree (omega arith)) q.agree;
          smaller = subst (λ (z : A). Smaller O z (x (k + d))) (sym (p.agree d m)) q.smaller;
        },
        omega arith,
      )
      go (no l) (no m) =
          let t : c ≡ d = omega (arith, l, m) in (
            record {
              offset = d;
              agree = agree_trans x i j k d (agree_less x i j c d p.agree (omega arith)) q.agree;
              smaller = smaller_trans O (x (i + d)) (x (j + d)) (x (k + d)) (subst (λ (z : ℕ). Smaller O (x (i + z)) (x (j + z))) t p.smaller) q.smaller;
            },
            omega arith,
          )

module _ {ℓ κ} {A : Type ℓ} (O : Letters {ℓ, κ} A) (x : ℕ → A) (n : ℕ) where
  smaller_at : (i j i' j' : ℕ) → i ≡ i' → j ≡ j' → Smaller O (x i) (x j) → Smaller O (x i') (x j')
  smaller_at i j i' j' p q s =
      subst (λ (k : ℕ). Smaller O (x k) (x j')) p (subst (λ (k : ℕ). Smaller O (x i) (x k)) q s)

  pub suffix_irrefl : (i : ℕ) → ¬ SuffixLess O x n i i
  suffix_irrefl i (ends d p q g) = omega arith
  suffix_irrefl i (parts d p q g s) = s.0 refl

  pub suffix_trans : (i j k : ℕ) → SuffixLess O x n i j → SuffixLess O x n j k → SuffixLess O x n i k
  suffix_trans i j k (ends d p q g) (ends e p' q' g') =
      ends d p (omega arith) (agree_trans x i j k d g (agree_less x j k e d g' (omega arith)))
  suffix_trans i j k (ends d p q g) (parts e p' q' g' s) = go (dec_lt d e) (dec_lt e d)
    where
      go : Dec (d < e) → Dec (e < d) → SuffixLess O x n i k
      go (yes l) m = ends d p (omega arith) (agree_trans x i j k d g (agree_less x j k e d g' (omega arith)))
      go (no l) (yes m) =
          parts e (omega arith) q' (agree_trans x i j k e (agree_less x i j d e g (omega arith)) g')
          (subst (λ (c : A). Smaller O c (x (k + e))) (sym (g e m)) s)
      go (no l) (no m) =
          let t : d ≡ e = omega (arith, l, m) in
          ends d p (omega arith) (agree_trans x i j k d g (agree_less x j k e d g' (omega arith)))
  suffix_trans i j k (parts d p q g s) (ends e p' q' g') =
      parts d p (omega arith) (agree_trans x i j k d g (agree_less x j k e d g' (omega arith)))
      (subst (λ (c : A). Smaller O (x (i + d)) c) (g' d (omega arith)) s)
  suffix_trans i j k (parts d p q g s) (parts e p' q' g' s') = go (dec_lt d e) (dec_lt e d)
    where
      go : Dec (d < e) → Dec (e < d) → SuffixLess O x n i k
      go (yes l) m =
          parts d p (omega arith) (agree_trans x i j k d g (agree_less x j k e d g' (omega arith)))
          (subst (λ (c : A). Smaller O (x (i + d)) c) (g' d l) s)
      go (no l) (yes m) =
          parts e (omega arith) q' (agree_trans x i j k e (agree_less x i j d e g (omega arith)) g')
          (subst (λ (c : A). Smaller O c (x (k + e))) (sym (g e m)) s')
      go (no l) (no m) =
          let t : d ≡ e = omega (arith, l, m) in
          parts d p (omega arith) (agree_trans x i j k d g (agree_less x j k e d g' (omega arith)))
          (smaller_trans O (x (i + d)) (x (j + d)) (x (k + d)) s (smaller_at (j + e) (k + e) (j + d) (k + d) (omega arith) (omega arith) s'))

  pub suffix_asym : (i j : ℕ) → SuffixLess O x n i j → ¬ SuffixLess O x n j i
  suffix_asym i j h k = suffix_irrefl i (suffix_trans i j i h k)

  -- A difference inside a span that ends in the text orders the suffixes.
  pub below_suffix : (i j e : ℕ) → i ≤ j → e ≤ n → BelowWithin O x i j e → SuffixLess O x n i j
  below_suffix i j e l h w = parts w.offset (omega (arith, w.inside)) (omega (arith, w.inside)) w.agree w.smaller

  -- m letters on which two suffixes agree may be taken away, or put before them.
  pub suffix_cancel : (i j m : ℕ) → Agree x i j m → i + m ≤ n → j + m ≤ n → SuffixLess O x n i j → SuffixLess O x n (i + m) (j + m)
  suffix_cancel i j m g a b (ends d p q h) = ends (d - m) (omega arith) (omega arith) (agree_shift x i j d m h (d - m) (omega arith))
  suffix_cancel i j m g a b (parts d p q h s) = go (dec_lt d m)
    where
      go : Dec (d < m) → SuffixLess O x n (i + m) (j + m)
      go (yes l) = absurd (s.0 (g d l))
      go (no l) =
          parts (d - m) (omega (arith, l)) (omega (arith, l)) (agree_shift x i j d m h (d - m) (omega (arith, l)))
          (smaller_at (i + d) (j + d) (i + m + (d - m)) (j + m + (d - m)) (omega (arith, l)) (omega (arith, l)) s)

  pub suffix_prepend : (i j m : ℕ) → Agree x i j m → SuffixLess O x n (i + m) (j + m) → SuffixLess O x n i j
  suffix_prepend i j m g (ends d p q h) = ends (m + d) (omega arith) (omega arith) (agree_join x i j m d g h)
  suffix_prepend i j m g (parts d p q h s) =
      parts (m + d) (omega arith) (omega arith) (agree_join x i j m d g h)
      (smaller_at (i + m + d) (j + m + d) (i + (m + d)) (j + (m + d)) (omega arith) (omega arith) s)
