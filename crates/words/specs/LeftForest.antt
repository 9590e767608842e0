-- The left Lyndon forest of a text.
-- Assumes nothing.
use Rattle.std.specs.Prelude.{List, ℕ, ◌<◌}
use Rattle.words.specs.Letters.{Letters}
use Rattle.words.specs.Word.{span}
use Rattle.words.specs.Lyndon.{Lyndon}
use Rattle.words.specs.CutTree.{IsForest}

-- The span from a to b is cut before c as u·v, u its longest proper Lyndon prefix (document 000, section 3).
pub record LeftCut {ℓ κ} {A : Type ℓ} (O : Letters {ℓ, κ} A) (x : List A) (a c b : ℕ) : Type (ℓ ⊔ κ) where
  pub non_empty : a < c
  pub proper : c < b
  pub lyndon : Lyndon O (span a c x)
  pub longest : (k : ℕ) → c < k → k < b → ¬ Lyndon O (span a k x)

-- FIRST and PAST are the left forest of x (document 01's left forest; document 000, section 6).
abbrev pub IsLeftForest {ℓ κ} : {A : Type ℓ} → Letters {ℓ, κ} A → List A → List ℕ → List ℕ → Type (ℓ ⊔ κ)
IsLeftForest O x first past = IsForest O (LeftCut O x) x first past
