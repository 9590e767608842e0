-- Suffixes smaller than all before them: the factors start there, and no Lyndon word crosses such a start.
-- Assumes nothing.
use Rattle.std.specs.Prelude.{◌≡◌, List, [], ◌∷◌, ℕ, zero, suc, ◌<◌, ◌≤◌, length, get_or}
use Rattle.std.proofs.Common.{subst, arith}
use Rattle.std.proofs.Math.Decide.{dec_lt}
use Rattle.words.specs.Letters.{Letters}
use Rattle.words.specs.Laws.Position.{SpanLyndon}
use Rattle.words.specs.Laws.SuffixOrder.{SuffixLess, NextSmaller, suffix_trans, suffix_asym, below_suffix}
use Rattle.words.specs.Laws.FactorChain.{Chain}

-- The suffix at h is smaller than every suffix before it.
abbrev pub Lowest {ℓ κ} : {A : Type ℓ} → Letters {ℓ, κ} A → (ℕ → A) → ℕ → ℕ → Type (ℓ ⊔ κ)
Lowest O x n h = (k : ℕ) → k < h → SuffixLess O x n h k

-- A factor from a to b: it ends at the next smaller suffix, and no suffix before it is smaller.
pub record FactorSpan {ℓ κ} {A : Type ℓ} (O : Letters {ℓ, κ} A) (x : ℕ → A) (n a b : ℕ) : Type (ℓ ⊔ κ) where
  pub lowest : Lowest O x n a
  pub next : NextSmaller O x n a b

module _ {ℓ κ} {A : Type ℓ} (O : Letters {ℓ, κ} A) (x : ℕ → A) (n : ℕ) where
  pub lowest_first : Lowest O x n 0
  lowest_first k l = absurd (omega arith)

  -- The next smaller suffix after such a suffix is one too.
  pub lowest_next : (h e : ℕ) → Lowest O x n h → NextSmaller O x n h e → Lowest O x n e
  lowest_next h e w m k l = go (dec_lt k h) (dec_lt h k)
    where
      go : Dec (k < h) → Dec (h < k) → SuffixLess O x n e k
      go (yes p) q = suffix_trans O x n e h k m.drops (w k p)
      go (no p) (yes q) = suffix_trans O x n e h k m.drops (m.between k q l)
      go (no p) (no q) = let t : h ≡ k = omega (arith, p, q) in subst (λ (z : ℕ). SuffixLess O x n e z) t m.drops

  -- No Lyndon word crosses the start of such a suffix.
  pub lowest_uncrossed : (h : ℕ) → Lowest O x n h → (k e : ℕ) → k < h → h < e → e ≤ n → ¬ SpanLyndon O x k e
  lowest_uncrossed h w k e p q r l =
      suffix_asym O x n k h (below_suffix O x n k h e (omega arith) r (l.below h p q)) (w k p)

  chain_first : (e : ℕ) (s : List ℕ) → Chain O x n e s → e ≡ get_or s 0 n
  chain_first e [] c = c.lower
  chain_first e (j ∷ s) c = c.0

  -- Each link of the chain from a lowest suffix is a factor.
  pub chain_factor : (i : ℕ) (s : List ℕ) → Lowest O x n i → Chain O x n i s → (k : ℕ) → k < length s →
      FactorSpan O x n (get_or s k 0) (get_or s (suc k) n)
  chain_factor i [] w c k l = absurd (omega arith)
  chain_factor i (j ∷ s) w c zero l =
      subst (λ (a : ℕ). FactorSpan O x n a (get_or s 0 n)) c.0
      (subst (λ (b : ℕ). FactorSpan O x n i b) (chain_first c.1 s c.3) (record { lowest = w; next = c.2 }))
  chain_factor i (j ∷ s) w c (suc k) l = chain_factor c.1 s (lowest_next i c.1 w c.2) c.3 k (omega arith)
