-- What the number remembered of a factor says.
-- Assumes nothing.
use mathlib.Core.Path.{◌≡◌, subst}
use Prim.Native.Nat.{ℕ, ◌+◌, ◌<◌, ◌≤◌}
use native.Mathlib.Decide.{dec_lt}
use native.Mathlib.Omega.{arith}
use Rattle.words.specs.Laws.NextSmaller.{next_lyndon}
use Rattle.words.specs.Laws.Position.{Agree, BelowWithin, SpanLyndon}
use Rattle.words.specs.Laws.SuffixOrder.{NextSmaller, agree_less}
use Rattle.words.specs.Letters.{Letters}
use Rattle.array.specs.Core.Rows.{Remembered}

-- The number s that is known of the factor at j.
pub record Known {ℓ} {A : Type ℓ} (x : ℕ → A) (n : ℕ) (lam buf : ℕ → ℕ) (j s : ℕ) : Type ℓ where
  pub agree : j + lam j < n → Agree x j (j + lam j) s
  pub within : j + lam j < n → j + lam j + s ≤ n
  pub short : s < lam j
  pub inner : (d : ℕ) → 0 < d → d ≤ s → buf (j + d) ≡ lam (j + d)
  pub part_agree : (d : ℕ) → 0 < d → d ≤ s → d + lam (j + d) ≡ lam j → ((t : ℕ) → j < t → t < j + d → ¬ Agree x j t d) → Agree x j (j + d) s

-- Inside a Lyndon word, the word agrees with a proper suffix of it on fewer letters than that suffix has.
pub agreement_short {ℓ κ} : {A : Type ℓ} (O : Letters {ℓ, κ} A) (x : ℕ → A) (i j t k : ℕ) → SpanLyndon O x i j → i < t → t < j → Agree x i t k → t + k < j
agreement_short O x i j t k w p q g = go (dec_lt (w.below t p q).offset k)
  where
    b : BelowWithin O x i t j
    b = w.below t p q

    go : Dec (b.offset < k) → t + k < j
    go (yes l) = absurd (b.smaller.0 (g b.offset l))
    go (no l) = omega (arith, l, b.inside)

-- A single letter.
pub known_letter {ℓ} : {A : Type ℓ} {x : ℕ → A} {n : ℕ} {lam buf : ℕ → ℕ} {j : ℕ} → j < n → lam j ≡ 1 → Known x n lam buf j 0
known_letter l e =
    record {
      agree = λ h k m. absurd (omega arith);
      within = λ h. omega arith;
      short = omega arith;
      inner = λ d p q. absurd (omega arith);
      part_agree = λ d p q. absurd (omega arith);
    }

-- A longer factor.
module _ {ℓ κ} {A : Type ℓ} {O : Letters {ℓ, κ} A} {x : ℕ → A} {n : ℕ} {lam : ℕ → ℕ} (next : (t : ℕ) → t < n → NextSmaller O x n t (t + lam t)) {buf : ℕ → ℕ} {j : ℕ}
    (m : Remembered x n lam buf j) where
  pub known_word : Known x n lam buf j (buf m.last)
  known_word =
      let b : m.part + buf m.last < j + lam j =
      agreement_short O x j (j + lam j) m.part (buf m.last) (next_lyndon O x n j (j + lam j) (next j m.inside)) m.part_after
      m.part_before m.part_agree in
      record {
        agree = m.next_agree;
        within = m.next_within;
        short = omega (arith, m.part_after);
        inner = λ d p q. m.inner (j + d) (omega arith) (omega (arith, m.part_after));
        part_agree = λ d p q e h. subst (λ (t : ℕ). Agree x j t (buf m.last)) (same d p q e h) m.part_agree;
      }
    where
      same : (d : ℕ) → 0 < d → d ≤ buf m.last → d + lam (j + d) ≡ lam j → ((t : ℕ) → j < t → t < j + d → ¬ Agree x j t d) → m.part ≡ j + d
      same d p q e h = go (dec_lt (j + d) m.part) (dec_lt m.part (j + d))
        where
          go : Dec (j + d < m.part) → Dec (m.part < j + d) → m.part ≡ j + d
          go (yes l) r = absurd (omega (arith, m.part_first (j + d) (omega arith) l))
          go (no l) (yes r) = absurd (h m.part m.part_after r (agree_less x j m.part (buf m.last) d m.part_agree q))
          go (no l) (no r) = omega (arith, l, r)
