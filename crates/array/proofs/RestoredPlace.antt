-- The buffer after the last place of a factor has its entry back.
-- Assumes nothing.
use mathlib.Core.Path.{◌≡◌, subst}
use mathlib.Core.List.{List}
use Prim.Native.Nat.{ℕ, suc, ◌+◌, ◌<◌, ◌≤◌, ◌-◌}
use native.Mathlib.Decide.{dec_lt}
use native.Mathlib.Omega.{arith}
use lib.ListN.{length, get_or, set}
use lib.Seq.{get_or-set_same}
use borrow.Author.Tests.{lt-ltb, le-ltb}
use Rattle.answer.specs.Content.{Kept}
use Rattle.answer.specs.ContentLaws.{kept_all, kept_set}
use Rattle.array.specs.Core.Place.{restored_at}

-- Only that place has changed.
pub restored_others : (buf : List ℕ) (j l : ℕ) → Kept (λ t. ¬ (suc t ≡ j + l)) buf (restored_at buf j l)
restored_others buf j l = go (dec_lt 1 l)
  where
    go : Dec (1 < l) → Kept (λ t. ¬ (suc t ≡ j + l)) buf (restored_at buf j l)
    go (yes p) = simp (lt-ltb _ _ p) (kept_set buf (j + l - 1) 1 (λ t h e. h (omega arith)))
    go (no p) = let q : l ≤ 1 = omega (arith, p) in simp (le-ltb _ _ q) (kept_all buf)

pub restored_one : (buf : List ℕ) (j l t : ℕ) → j + l ≤ length buf → (l ≤ 1 → get_or buf t 0 ≡ 1) → suc t ≡ j + l → get_or (restored_at buf j l) t 0 ≡ 1
restored_one buf j l t h one e = go (dec_lt 1 l)
  where
    go : Dec (1 < l) → get_or (restored_at buf j l) t 0 ≡ 1
    go (yes p) =
        let q : j + l - 1 ≡ t = omega arith in
        simp (lt-ltb _ _ p)
        (subst (λ (u : ℕ). get_or (set buf (j + l - 1) 1) u 0 ≡ 1) q (get_or-set_same buf (j + l - 1) 1 0 (omega arith)))
    go (no p) = let q : l ≤ 1 = omega (arith, p) in simp (le-ltb _ _ q) (one q)
