-- Giving the last places of all factors their entries back.
-- Assumes nothing.
use mathlib.Core.Path.{◌≡◌, subst, sym, ap, ◌∙◌}
use mathlib.Core.List.{List}
use Prim.Native.Nat.{ℕ, suc, ◌+◌, ◌<◌, ◌≤◌}
use native.Mathlib.Decide.{dec_lt}
use native.Mathlib.Omega.{arith}
use lib.ListN.{length, get_or}
use Rattle.std.proofs.Common.{ext_get_or}
use Rattle.words.specs.Compute.LyndonArray.{array_of, array_of_holds}
use Rattle.words.specs.Decided.{decided_order}
use Rattle.words.specs.Laws.SpanLyndon.{letters}
use Rattle.words.specs.Laws.SuffixOrder.{NextSmaller}
use Rattle.words.specs.Letters.{Letters}
use Rattle.array.specs.declared.factor.Factor.{Factor}
use Rattle.array.specs.Core.Fill.{HasRows, AllRestored}
use Rattle.array.specs.Core.Place.{factor_at, restored_at}
use Rattle.array.specs.Core.Rows.{Rows, entry_of, RowsOf}
use Rattle.array.proofs.Entries.{entry_next, entry_own}
use Rattle.array.proofs.LastPlace.{restored_factor}
use Rattle.array.proofs.RestoredPlace.{restored_others, restored_one}
use Rattle.array.proofs.RowLaws.{rows_same, front}

-- Every entry below j is final, and the rows go on from j.
pub record Restoring {ℓ} {A : Type ℓ} (x : ℕ → A) (n : ℕ) (lam buf : ℕ → ℕ) (j : ℕ) : Type ℓ where
  pub inside : j ≤ n
  pub final : (t : ℕ) → t < j → buf t ≡ lam t
  pub rows : Rows x n lam buf j

module _ {ℓ κ} {A : Type ℓ} {O : Letters {ℓ, κ} A} {x : ℕ → A} {n : ℕ} {lam : ℕ → ℕ} (next : (t : ℕ) → t < n → NextSmaller O x n t (t + lam t))
    {buf buf' : ℕ → ℕ} where
  -- The factor at j gets its last entry back, and the next one is looked at.
  pub restoring_step : {j : ℕ} → Restoring x n lam buf j → j < n → ((t : ℕ) → t < n → ¬ (suc t ≡ j + lam j) → buf' t ≡ buf t) →
      ((t : ℕ) → suc t ≡ j + lam j → buf' t ≡ 1) → Restoring x n lam buf' (j + lam j)
  restoring_step {j} w l kept reset =
      record {
        inside = (next j l).inside;
        final = λ t p. go t p (dec_lt t j);
        rows = rows_same (λ t p q. kept t q (λ e. omega arith)) (front l w.rows).rest;
      }
    where
      go : (t : ℕ) → t < j + lam j → Dec (t < j) → buf' t ≡ lam t
      go t p (yes h) = kept t (omega arith) (λ e. omega (arith, (next j l).after)) ∙ w.final t h
      go t p (no h) = restored_factor next l w.rows kept reset t (omega (arith, h)) p

-- The last places below j have their entries back, for every text whose rows the buffer held.
pub record RestoredBelow (before after : List ℕ) (j : ℕ) : Type 0 where
  pub size : length after ≡ length before
  pub restoring : (order : ℕ) (x : List ℕ) → length x ≡ length before → RowsOf order x before 0 →
      Restoring (letters 0 x) (length x) (entry_of order x) (letters 0 after) j

-- The factor at j, of length l.
pub record FactorAt (buf : List ℕ) (j l : ℕ) : Type 0 where
  pub positive : 0 < l
  pub ends : j + l ≤ length buf

-- It is one of the rows that are left.
pub row_at : (before buf : List ℕ) (j l : ℕ) → HasRows before → RestoredBelow before buf j → j < length buf → l ≡ get_or buf j 0 → FactorAt buf j l
row_at before buf j l h w q e =
    let r = w.restoring h.order h.text h.size h.rows in
    let m : j < length h.text = omega (arith, h.size, w.size) in
    let o : l ≡ entry_of h.order h.text j = e ∙ entry_own h.order h.text buf j m r.rows in
    let nj = entry_next h.order h.text j m in
    record { positive = omega (arith, nj.after); ends = omega (arith, nj.inside, h.size, w.size) }

-- The factor at j has its last entry back.
pub restored_step : (before buf after : List ℕ) (j : ℕ) (factor : Factor) → HasRows before → RestoredBelow before buf j → j < length buf →
    factor ≡ factor_at buf j → after ≡ restored_at buf factor.start factor.length → RestoredBelow before after (j + factor.length)
restored_step before buf after j factor h w q is_factor changed =
    let f = row_at before buf j l h w q e in
    rw (changed, ap (λ (a : Factor). a.start) is_factor)
    (record {
      size = (restored_others buf j l).size ∙ w.size;
      restoring = λ order x ex r. step f order x ex (w.restoring order x ex r);
    })
  where
    l : ℕ
    l = factor.length

    e : l ≡ get_or buf j 0
    e = ap (λ (a : Factor). a.length) is_factor

    step : FactorAt buf j l → (order : ℕ) (x : List ℕ) → length x ≡ length before →
        Restoring (letters 0 x) (length x) (entry_of order x) (letters 0 buf) j →
        Restoring (letters 0 x) (length x) (entry_of order x) (letters 0 (restored_at buf j l)) (j + l)
    step f order x ex r =
        let m : j < length x = omega (arith, ex, w.size) in
        let o : l ≡ entry_of order x j = e ∙ entry_own order x buf j m r.rows in
        subst (λ (k : ℕ). Restoring (letters 0 x) (length x) (entry_of order x) (letters 0 (restored_at buf j l)) (j + k)) (sym o)
        (restoring_step (entry_next order x) r m
        (λ t p z. (restored_others buf j l).kept t (λ y. z (omega arith)))
        (λ t z.
        restored_one buf j l t f.ends
        (λ g.
        let y : t ≡ j = omega (arith, f.positive) in
        ap (λ (u : ℕ). get_or buf u 0) y ∙ sym e ∙ omega (arith, f.positive)) (omega arith)))

-- All of them have: the buffer holds the array.
pub restored_end : (before buf : List ℕ) (j : ℕ) → RestoredBelow before buf j → length buf ≤ j → AllRestored before buf
unfolding entry_of
restored_end before buf j w end =
    record {
      final =
          λ order x size rows.
          let a = array_of_holds (decided_order order) x in
          ext_get_or 0 buf (array_of (decided_order order) x) (omega (arith, w.size, size, a.size))
          (λ t q. (w.restoring order x size rows).final t (omega arith));
    }

-- A step of the loop, and its end.
pub ruleset restoring = (restored_step, restored_end)
