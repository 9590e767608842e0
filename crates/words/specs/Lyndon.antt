-- Lyndon words.
-- Assumes nothing.
use Rattle.std.specs.Prelude.{◌≡◌, List, [], ◌++◌}
use Rattle.words.specs.Letters.{Letters}
use Rattle.words.specs.Word.{Less}

-- w is a Lyndon word (document 002, "Lyndon words"): it is not empty, and it is smaller than all its proper non-empty suffixes.
pub record Lyndon {ℓ κ} {A : Type ℓ} (O : Letters {ℓ, κ} A) (w : List A) : Type (ℓ ⊔ κ) where
  pub non_empty : ¬ (w ≡ [])
  pub smaller : (u v : List A) → w ≡ u ++ v → ¬ (u ≡ []) → ¬ (v ≡ []) → Less O w v
