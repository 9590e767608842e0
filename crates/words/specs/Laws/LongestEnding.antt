-- The longest Lyndon word that ends at a position, by positions: inside a repetition it is that of the copy before.
-- Assumes nothing.
use Rattle.std.specs.Prelude.{◌≡◌, List, ℕ, suc, ◌+◌, ◌-◌, ◌<◌, ◌≤◌, length}
use Rattle.std.proofs.Common.{sym, ap, ◌∙◌, arith}
use Rattle.std.proofs.Math.Decide.{dec_lt}
use Rattle.words.specs.Letters.{Letters}
use Rattle.words.specs.SuffixTable.{LongestTo}
use Rattle.words.specs.Laws.Position.{BelowWithin, SpanLyndon}
use Rattle.words.specs.Laws.SpanLyndon.{letters, lyndon_span, span_lyndon}
use Rattle.words.specs.Laws.NextSmaller.{below_longer, below_trans}
use Rattle.words.specs.Laws.LowestSuffix.{Lowest, lowest_uncrossed}
use Rattle.words.specs.Laws.Repetition.{Repetition, lyndon_copy, first_copy_left}

-- The longest Lyndon word of which e is the end starts at s.
pub record LongestEnding {ℓ κ} {A : Type ℓ} (O : Letters {ℓ, κ} A) (x : ℕ → A) (s e : ℕ) : Type (ℓ ⊔ κ) where
  pub lyndon : SpanLyndon O x s e
  pub longest : (k : ℕ) → k < s → ¬ SpanLyndon O x k e

module _ {ℓ κ} {A : Type ℓ} (O : Letters {ℓ, κ} A) (x : ℕ → A) where
  -- Overlapping Lyndon words make one Lyndon word.
  pub lyndon_overlap : (a b c d : ℕ) → SpanLyndon O x a c → SpanLyndon O x b d → a < b → b < c → c ≤ d → SpanLyndon O x a d
  lyndon_overlap a b c d u v p q r = record { non_empty = omega arith; below = λ k i j. go k i j (dec_lt k c) }
    where
      go : (k : ℕ) → a < k → k < d → Dec (k < c) → BelowWithin O x a k d
      go k i j (yes l) = below_longer O x d a k c d r (u.below k i l)
      go k i j (no l) = below_trans O x d a b k d (below_longer O x d a b c d r (u.below b p q)) (v.below k (omega arith) j)

  -- A longest Lyndon word is not overlapped from the left by one that ends inside it.
  pub ending_inside : (s e k b : ℕ) → LongestEnding O x s e → SpanLyndon O x k b → s < b → b ≤ e → s ≤ k
  ending_inside s e k b w l p q = go (dec_lt k s)
    where
      go : Dec (k < s) → s ≤ k
      go (yes m) = absurd (w.longest k m (lyndon_overlap k s b e l w.lyndon m p q))
      go (no m) = omega (arith, m)

  module _ (n h : ℕ) (w : Lowest O x n h) where
    -- A Lyndon word that starts at a lowest suffix is the longest one with its end.
    pub lowest_longest : (e : ℕ) → e ≤ n → SpanLyndon O x h e → LongestEnding O x h e
    lowest_longest e r l = record { lyndon = l; longest = λ k m. lowest_uncrossed O x n h w k e m l.non_empty r }

    -- A longest Lyndon word that ends behind a lowest suffix starts there or later.
    pub lowest_reached : (s e : ℕ) → h < e → e ≤ n → LongestEnding O x s e → h ≤ s
    lowest_reached s e p q l = go (dec_lt s h)
      where
        go : Dec (s < h) → h ≤ s
        go (yes m) = absurd (lowest_uncrossed O x n h w s e m p q l.lyndon)
        go (no m) = omega (arith, m)

    -- In a repetition from h the longest Lyndon word that ends at a place is that of the same place one copy before.
    pub repetition_longest : (p e : ℕ) → Repetition O x h p e → e ≤ n → (s b : ℕ) → h < b → b + p ≤ e → LongestEnding O x s b →
        LongestEnding O x (s + p) (b + p)
    repetition_longest p e r f s b l m g =
        record {
          lyndon =
              lyndon_copy O x s b (s + p) (b + p) (b - s) (omega (arith, order)) (omega (arith, order))
              (λ k i. let u : s + k + p ≡ s + p + k = omega arith in r.period (s + k) (omega (arith, from)) (omega arith) ∙ ap x u)
              g.lyndon;
          longest = λ k i v. earlier k i v (dec_lt k h) (dec_lt k (h + p));
        }
      where
        from : h ≤ s
        from = lowest_reached s b l (omega arith) g

        order : s < b
        order = g.lyndon.non_empty

        earlier : (k : ℕ) → k < s + p → SpanLyndon O x k (b + p) → Dec (k < h) → Dec (k < h + p) → ⊥
        earlier k i v (yes j) q = lowest_uncrossed O x n h w k (b + p) j (omega arith) (omega arith) v
        earlier k i v (no j) (yes q) = first_copy_left O x h p e r k (b + p) (omega arith) q (omega arith) m v
        earlier k i v (no j) (no q) =
            let o : ℕ = k - p in
            let c : k ≡ o + p = omega arith in
            g.longest o (omega arith)
            (lyndon_copy O x k (b + p) o b (b - o) (omega (arith, v.non_empty)) (omega (arith, v.non_empty))
            (λ t a.
            let u : o + t + p ≡ k + t = omega arith in
            sym (r.period (o + t) (omega arith) (omega (arith, v.non_empty)) ∙ ap x u))
            v)

module _ {ℓ κ} {A : Type ℓ} (O : Letters {ℓ, κ} A) (z : A) (x : List A) where
  -- The definition on words gives the form by positions.
  pub longest_ending : (j l : ℕ) → j < length x → (w : LongestTo O x j l) → LongestEnding O (letters z x) w.start (suc j)
  longest_ending j l h w =
      record {
        lyndon = lyndon_span O z x w.start (suc j) h w.lyndon;
        longest = λ k m v. w.longest k m (span_lyndon O z x k (suc j) h v);
      }

  -- And the other way round.
  pub ending_longest : (j l s : ℕ) → j < length x → s + l ≡ suc j → LongestEnding O (letters z x) s (suc j) → LongestTo O x j l
  ending_longest j l s h e w =
      record {
        start = s;
        ends = e;
        lyndon = span_lyndon O z x s (suc j) h w.lyndon;
        longest = λ k m v. w.longest k m (lyndon_span O z x k (suc j) h v);
      }
