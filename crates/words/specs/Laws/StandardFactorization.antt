-- The right forest cuts a word as the standard factorization does: its longest proper Lyndon suffix is its smallest proper suffix.
-- Assumes nothing.
use Rattle.std.specs.Prelude.{◌≡◌, ◌⊎◌, ◌↔◌, List, [], ◌∷◌, ℕ, zero, suc, ◌+◌, ◌<◌, ◌≤◌, length}
use Rattle.std.proofs.Common.{subst, inl, inr, arith}
use Rattle.std.proofs.Math.Decide.{dec_lt}
use Rattle.words.specs.Letters.{Letters}
use Rattle.words.specs.Decided.{Decided}
use Rattle.words.specs.Word.{span, Less}
use Rattle.words.specs.RightForest.{RightCut}
use Rattle.words.specs.Laws.Position.{BelowWithin, SpanLyndon, SpanLess, differs, shorter}
use Rattle.words.specs.Laws.SpanLyndon.{letters, less_span, span_less, lyndon_span, span_lyndon}
use Rattle.words.specs.Laws.SuffixOrder.{SuffixLess, ends, parts, suffix_trans, suffix_asym}
use Rattle.words.specs.Laws.NextSmaller.{lyndon_below}
use Rattle.words.specs.Laws.Compared.{AllCompared, decided_compared, suffix_compare, all_compared_irrefutable}

-- The span from a to b is cut before c as u·v, v the smallest of its proper non-empty suffixes (document 002, "Lyndon trees (1)").
pub record SmallestSuffix {ℓ κ} {A : Type ℓ} (O : Letters {ℓ, κ} A) (x : List A) (a c b : ℕ) : Type (ℓ ⊔ κ) where
  pub proper : a < c
  pub non_empty : c < b
  pub smallest : (k : ℕ) → a < k → k < b → ¬ (k ≡ c) → Less O (span c b x) (span k b x)

-- Suffixes of the text cut off at b, and spans that end there.
suffix_span {ℓ κ} : {A : Type ℓ} (O : Letters {ℓ, κ} A) (x : ℕ → A) (b i j : ℕ) → SuffixLess O x b i j → SpanLess O x i b j b
suffix_span O x b i j (ends d p q g) = shorter d p q g
suffix_span O x b i j (parts d p q g s) = differs d p q g s

span_suffix {ℓ κ} : {A : Type ℓ} (O : Letters {ℓ, κ} A) (x : ℕ → A) (b i j : ℕ) → SpanLess O x i b j b → SuffixLess O x b i j
span_suffix O x b i j (shorter d p q g) = ends d p q g
span_suffix O x b i j (differs d p q g s) = parts d p q g s

-- A suffix smaller than all that start behind it is a Lyndon word.
smaller_lyndon {ℓ κ} : {A : Type ℓ} (O : Letters {ℓ, κ} A) (x : ℕ → A) (b i : ℕ) → i < b → ((j : ℕ) → i < j → j < b → SuffixLess O x b i j) → SpanLyndon O x i b
smaller_lyndon O x b i l h = record { non_empty = l; below = λ j p q. within j p (h j p q) }
  where
    within : (j : ℕ) → i < j → SuffixLess O x b i j → BelowWithin O x i j b
    within j p (ends d u v g) = absurd (omega arith)
    within j p (parts d u v g s) = record { offset = d; inside = v; agree = g; smaller = s }

module _ {ℓ κ} {A : Type ℓ} (O : Letters {ℓ, κ} A) (x : ℕ → A) (a c b : ℕ) (compared : AllCompared O x b) (lyndon : SpanLyndon O x c b)
    (longest : (k : ℕ) → a < k → k < c → ¬ SpanLyndon O x k b) where
  longest_behind : (j : ℕ) → c < j → j < b → SuffixLess O x b c j
  longest_behind = lyndon_below O x b c b lyndon (omega arith)

  -- The longest proper Lyndon suffix is smaller than those before it: the last of these that was not greater would be a longer Lyndon word.
  longest_before : (fuel k : ℕ) → a < k → k < c → c ≤ k + fuel → SuffixLess O x b c k
  longest_before zero k p q f = absurd (omega arith)
  longest_before (suc fuel) k p q f =
      go
      (suffix_compare O x b compared k c (omega (arith, lyndon.non_empty)) (omega (arith, lyndon.non_empty)) (λ e. omega arith))
      (λ j h i. longest_before fuel j (omega arith) i (omega arith))
    where
      all : SuffixLess O x b k c → ((j : ℕ) → k < j → j < c → SuffixLess O x b c j) → (j : ℕ) → k < j → j < b → Dec (j < c) → Dec (c < j)
          → SuffixLess O x b k j
      all s f j h i (yes l) m = suffix_trans O x b k c j s (f j h l)
      all s f j h i (no l) (yes m) = suffix_trans O x b k c j s (longest_behind j m i)
      all s f j h i (no l) (no m) =
          let t : c ≡ j = omega (arith, l, m) in
          subst (λ (z : ℕ). SuffixLess O x b k z) t s

      go : SuffixLess O x b k c ⊎ SuffixLess O x b c k → ((j : ℕ) → k < j → j < c → SuffixLess O x b c j) → SuffixLess O x b c k
      go (inr s) f = s
      go (inl s) f =
          absurd
          (longest k p q
          (smaller_lyndon O x b k (omega (arith, lyndon.non_empty)) (λ j h i. all s f j h i (dec_lt j c) (dec_lt c j))))

  -- It is smaller than every other proper suffix.
  longest_smallest : (k : ℕ) → a < k → k < b → ¬ (k ≡ c) → SuffixLess O x b c k
  longest_smallest k p q n = go (dec_lt k c)
    where
      go : Dec (k < c) → SuffixLess O x b c k
      go (yes l) = longest_before c k p l (omega arith)
      go (no l) = longest_behind k (omega (arith, n)) q

module _ {ℓ κ} {A : Type ℓ} (O : Letters {ℓ, κ} A) (z : A) (x : List A) (a c b : ℕ) (f : b ≤ length x) where
  right_cut_suffix : AllCompared O (letters z x) b → RightCut O x a c b → (k : ℕ) → a < k → k < b → ¬ (k ≡ c) → SuffixLess O (letters z x) b c k
  right_cut_suffix compared r =
      longest_smallest O (letters z x) a c b compared (lyndon_span O z x c b f r.lyndon)
      (λ k p q w. r.longest k p q (span_lyndon O z x k b f w))

  -- Where the letters are compared, the cut of the right forest's rule is that of the standard factorization.
  pub right_cut_smallest : AllCompared O (letters z x) (length x) → RightCut O x a c b → SmallestSuffix O x a c b
  right_cut_smallest compared r =
      record {
        proper = r.proper;
        non_empty = r.non_empty;
        smallest =
            λ k p q n.
            span_less O z x c b k b f f
            (suffix_span O (letters z x) b c k
            (right_cut_suffix (λ i j u v. compared i j (omega arith) (omega arith)) r k p q n));
      }

  less_suffixes : (i j : ℕ) → i ≤ b → Less O (span i b x) (span j b x) → SuffixLess O (letters z x) b i j
  less_suffixes i j h l = span_suffix O (letters z x) b i j (less_span O z x i b j b f f h l)

  -- With no letter compared, no other proper suffix is smaller.
  right_cut_least : RightCut O x a c b → (k : ℕ) → a < k → k < b → ¬ (k ≡ c) → ¬ Less O (span k b x) (span c b x)
  right_cut_least r k p q n l =
      all_compared_irrefutable O (letters z x) b
      (λ compared.
      suffix_asym O (letters z x) b k c (less_suffixes k c (omega arith) l) (right_cut_suffix compared r k p q n))

  -- The cut of the standard factorization is that of the right forest's rule, with no letter compared.
  smallest_cut : SmallestSuffix O x a c b → RightCut O x a c b
  smallest_cut s =
      record {
        proper = s.proper;
        non_empty = s.non_empty;
        lyndon =
            span_lyndon O z x c b f
            (smaller_lyndon O (letters z x) b c s.non_empty
            (λ j p q. less_suffixes c j (omega (arith, s.non_empty)) (s.smallest j (omega (arith, s.proper)) q (λ e. omega arith))));
        longest =
            λ k p q w.
            let l : k < b = omega (arith, s.non_empty) in
            suffix_asym O (letters z x) b c k
            (less_suffixes c k (omega (arith, s.non_empty)) (s.smallest k p l (λ e. omega arith)))
            (lyndon_below O (letters z x) b k b (lyndon_span O z x k b f w) (omega arith) c q s.non_empty);
      }

-- The cut of the standard factorization is that of the right forest's rule.
pub smallest_right_cut {ℓ κ} : {A : Type ℓ} (O : Letters {ℓ, κ} A) (x : List A) (a c b : ℕ) → b ≤ length x → SmallestSuffix O x a c b → RightCut O x a c b
smallest_right_cut O [] a c b f s = absurd (omega (arith, s.non_empty))
smallest_right_cut O (e ∷ x) a c b f s = smallest_cut O e (e ∷ x) a c b f s

-- The right forest's rule cuts off a suffix of which no other proper one is smaller.
pub right_cut_none_smaller {ℓ κ} : {A : Type ℓ} (O : Letters {ℓ, κ} A) (x : List A) (a c b : ℕ) → b ≤ length x → RightCut O x a c b
    → (k : ℕ) → a < k → k < b → ¬ (k ≡ c) → ¬ Less O (span k b x) (span c b x)
right_cut_none_smaller O [] a c b f r k p q n = absurd (omega (arith, r.non_empty))
right_cut_none_smaller O (e ∷ x) a c b f r k p q n = right_cut_least O e (e ∷ x) a c b f r k p q n

-- For letters whose comparisons are decided the two are the same: document 000's cut and document 002's.
pub standard_factorization {ℓ κ} : {A : Type ℓ} {O : Letters {ℓ, κ} A} → Decided O → (x : List A) (a c b : ℕ) → b ≤ length x
    → RightCut O x a c b ↔ SmallestSuffix O x a c b
standard_factorization {O = O} D [] a c b f = (λ r. absurd (omega (arith, r.non_empty)), smallest_right_cut O [] a c b f)
standard_factorization {O = O} D (e ∷ x) a c b f = (
  right_cut_smallest O e (e ∷ x) a c b f (decided_compared D (letters e (e ∷ x)) (length (e ∷ x))),
  smallest_right_cut O (e ∷ x) a c b f,
)
