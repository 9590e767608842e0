-- The right Lyndon forest of a text.
-- Assumes nothing.
use Rattle.std.specs.Prelude.{List, ℕ, ◌<◌}
use Rattle.words.specs.Letters.{Letters}
use Rattle.words.specs.Word.{span}
use Rattle.words.specs.Lyndon.{Lyndon}
use Rattle.words.specs.CutTree.{IsForest}

-- The span from a to b is cut before c as u·v, v its longest proper Lyndon suffix (document 000, section 1). Document 002, "Lyndon trees
-- (1)", has v as the smallest proper non-empty suffix; Laws/StandardFactorization shows that these are one cut where comparisons are decided,
-- and what is true of all letters.
pub record RightCut {ℓ κ} {A : Type ℓ} (O : Letters {ℓ, κ} A) (x : List A) (a c b : ℕ) : Type (ℓ ⊔ κ) where
  pub proper : a < c
  pub non_empty : c < b
  pub lyndon : Lyndon O (span c b x)
  pub longest : (k : ℕ) → a < k → k < c → ¬ Lyndon O (span k b x)

-- FIRST and PAST are the right forest of x (document 01's right forest).
abbrev pub IsRightForest {ℓ κ} : {A : Type ℓ} → Letters {ℓ, κ} A → List A → List ℕ → List ℕ → Type (ℓ ⊔ κ)
IsRightForest O x first past = IsForest O (RightCut O x) x first past
