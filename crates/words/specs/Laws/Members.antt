-- Members of a list, by their positions.
-- Assumes nothing.
use Rattle.std.specs.Prelude.{◌≡◌, refl, ◌⊎◌, ℕ, zero, suc, ◌<◌, length, get_or}
use Rattle.std.proofs.Common.{sym, subst, inl, inr, arith}
use mathlib.Core.List.Memᴰ
use mathlib.Core.List.{List, [], ◌∷◌, Memᴰ}
use Rattle.words.specs.Different.{Different}

module _ {ℓ} {B : Type ℓ} (z : B) where
  -- What stands at a position is a member.
  pub position_member : (l : List B) (i : ℕ) → i < length l → Memᴰ (get_or l i z) l
  position_member [] i h = absurd (omega arith)
  position_member (b ∷ l) zero h = Memᴰ.head refl
  position_member (b ∷ l) (suc i) h = Memᴰ.tail (position_member l i (omega arith))

  -- A member stands at some position.
  pub member_position : (l : List B) (b : B) → Memᴰ b l → (i : ℕ) × (i < length l) × (get_or l i z ≡ b)
  member_position [] b m = absurd (Memᴰ.not-nil m)
  member_position (c ∷ l) b m = go (Memᴰ.cases_cons m) (member_position l b)
    where
      go : (b ≡ c) ⊎ Memᴰ b l → (Memᴰ b l → (i : ℕ) × (i < length l) × (get_or l i z ≡ b)) →
          (i : ℕ) × (i < length (c ∷ l)) × (get_or (c ∷ l) i z ≡ b)
      go (inl q) rest = (0, omega arith, sym q)
      go (inr k) rest = let w = rest k in (suc w.0, omega (arith, w.1), w.2)

  -- Where no element stands twice, two positions have two elements.
  pub different_positions : (l : List B) → Different l → (i j : ℕ) → i < j → j < length l → ¬ (get_or l i z ≡ get_or l j z)
  different_positions [] d i j a b e = omega arith
  different_positions (c ∷ l) d zero zero a b e = omega arith
  different_positions (c ∷ l) d zero (suc j) a b e = d.0 (subst (λ (k : B). Memᴰ k l) (sym e) (position_member l j (omega arith)))
  different_positions (c ∷ l) d (suc i) zero a b e = omega arith
  different_positions (c ∷ l) d (suc i) (suc j) a b e = different_positions l d.1 i j (omega arith) (omega arith) e
