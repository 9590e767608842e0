-- The right forest of a text computed from its Lyndon array, for letters whose comparisons are decided.
-- Assumes nothing.
use Rattle.std.specs.Prelude.{List, ℕ}
use Rattle.words.specs.Letters.{Letters}
use Rattle.words.specs.Decided.{Decided}
use Rattle.words.specs.RightForest.{IsRightForest}
use Rattle.words.specs.ArrayForest.{forest_first, forest_past}
use Rattle.words.specs.Compute.LyndonArray.{array_of, array_of_holds}
use Rattle.words.specs.Laws.ArrayForest.{array_forest}

-- FIRST of the right forest of x.
abbrev pub right_first_of {ℓ κ} : {A : Type ℓ} {O : Letters {ℓ, κ} A} → Decided O → List A → List ℕ
right_first_of D x = forest_first (array_of D x)

-- PAST of the right forest of x.
abbrev pub right_past_of {ℓ κ} : {A : Type ℓ} {O : Letters {ℓ, κ} A} → Decided O → List A → List ℕ
right_past_of D x = forest_past (array_of D x)

pub right_forest_of_holds {ℓ κ} : {A : Type ℓ} {O : Letters {ℓ, κ} A} (D : Decided O) (x : List A) → IsRightForest O x (right_first_of D x) (right_past_of D x)
right_forest_of_holds {O = O} D x = array_forest O x (array_of D x) (array_of_holds D x)
