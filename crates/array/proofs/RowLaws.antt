-- The first factor of the rows, and that rows look only at the buffer from their start on.
-- Assumes nothing.
use mathlib.Core.Path.{◌≡◌, subst, sym, ◌∙◌}
use Prim.Native.Nat.{ℕ, suc, ◌+◌, ◌<◌, ◌≤◌}
use native.Mathlib.Omega.{arith}
use Rattle.words.specs.Laws.Position.{Agree}
use Rattle.array.specs.Core.Rows.{Remembered, Rows, finished, letter, word}

-- The first factor of the rows at j, and what follows it.
pub record Front {ℓ} {A : Type ℓ} (x : ℕ → A) (n : ℕ) (lam buf : ℕ → ℕ) (j : ℕ) : Type ℓ where
  pub own : buf j ≡ lam j
  pub rest : Rows x n lam buf (j + lam j)
  pub remembered : 1 < lam j → Remembered x n lam buf j

module _ {ℓ} {A : Type ℓ} {x : ℕ → A} {n : ℕ} {lam buf buf' : ℕ → ℕ} where
  remembered_same : {c : ℕ} → ((t : ℕ) → c ≤ t → t < n → buf' t ≡ buf t) → Remembered x n lam buf c → Remembered x n lam buf' c
  remembered_same {c} h m =
      let e : buf' m.last ≡ buf m.last =
      h m.last (omega (arith, m.last_is, m.long)) (omega (arith, m.last_is, m.ends_inside)) in
      record {
        inside = m.inside;
        ends_inside = m.ends_inside;
        long = m.long;
        own = h c (omega arith) m.inside ∙ m.own;
        inner = λ t p q. h t (omega arith) (omega (arith, m.ends_inside)) ∙ m.inner t p q;
        last = m.last;
        last_is = m.last_is;
        next_agree = λ l. subst (λ (d : ℕ). Agree x c (c + lam c) d) (sym e) (m.next_agree l);
        next_within = λ l. omega (arith, e, m.next_within l);
        part = m.part;
        part_after = m.part_after;
        part_before = m.part_before;
        part_ends = m.part_ends;
        part_first = m.part_first;
        part_agree = subst (λ (d : ℕ). Agree x c m.part d) (sym e) m.part_agree;
      }

  -- Rows look only at the buffer from their start on.
  pub rows_same : {c : ℕ} → ((t : ℕ) → c ≤ t → t < n → buf' t ≡ buf t) → Rows x n lam buf c → Rows x n lam buf' c
  rows_same h (finished e) = finished e
  rows_same {c} h (letter l e b r) = letter l e (h c (omega arith) l ∙ b) (rows_same (λ t p q. h t (omega arith) q) r)
  rows_same h (word m r) = word (remembered_same h m) (rows_same (λ t p q. h t (omega arith) q) r)

-- The rows of a position inside the text begin with a factor.
pub front {ℓ} : {A : Type ℓ} {x : ℕ → A} {n : ℕ} {lam buf : ℕ → ℕ} {j : ℕ} → j < n → Rows x n lam buf j → Front x n lam buf j
front l (finished e) = absurd (omega arith)
front {x = x} {n} {lam} {buf} {j} l (letter m e b r) =
    let t : suc j ≡ j + lam j = omega arith in
    record {
      own = b ∙ sym e;
      rest = subst (λ (c : ℕ). Rows x n lam buf c) t r;
      remembered = λ h. absurd (omega arith);
    }
front l (word m r) = record { own = m.own; rest = r; remembered = λ h. m }
