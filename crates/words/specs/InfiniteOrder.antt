-- The infinite order of words.
-- Assumes nothing.
use Rattle.std.specs.Prelude.{◌≡◌, ◌⊎◌, List, ℕ, ◌%◌, ◌<◌, length}
use Rattle.std.proofs.Math.Option.{Option, some}
use Rattle.std.proofs.Math.ListN.{get_elem?}
use Rattle.words.specs.Letters.{Letters, Smaller}

-- Letter k of u^∞, endless copies of u (document 000, "Definitions"): the letter of u at k modulo its length. Only the empty word has none.
abbrev pub endless {ℓ} : {A : Type ℓ} → List A → ℕ → Option A
endless u k = get_elem? u (k % length u)

-- u^∞ = v^∞: they have the same letter at every position.
abbrev pub EndlessSame {ℓ} : {A : Type ℓ} → List A → List A → Type ℓ
EndlessSame u v = (k : ℕ) → endless u k ≡ endless v k

-- u^∞ < v^∞: they have the same letters up to a position at which u^∞ has the smaller one.
pub record EndlessLess {ℓ κ} {A : Type ℓ} (O : Letters {ℓ, κ} A) (u v : List A) : Type (ℓ ⊔ κ) where
  pub offset : ℕ
  pub alike : (k : ℕ) → k < offset → endless u k ≡ endless v k
  pub a : A
  pub b : A
  pub left : endless u offset ≡ some a
  pub right : endless v offset ≡ some b
  pub smaller : Smaller O a b

-- u is before v in infinite order (document 000, "Definitions"): "u ≺ v if u^∞ < v^∞ or both u^∞ = v^∞ and |u| > |v|".
abbrev pub InfiniteLess {ℓ κ} : {A : Type ℓ} → Letters {ℓ, κ} A → List A → List A → Type (ℓ ⊔ κ)
InfiniteLess O u v = EndlessLess O u v ⊎ (EndlessSame u v × (length v < length u))
