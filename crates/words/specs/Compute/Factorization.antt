-- The Lyndon factorization, computed from the Lyndon array, for letters whose comparisons are decided.
-- Assumes nothing.
use Rattle.std.specs.Prelude.{List, ℕ}
use Rattle.words.specs.Letters.{Letters}
use Rattle.words.specs.Decided.{Decided}
use Rattle.words.specs.Factorization.{IsFactorization}
use Rattle.words.specs.ArrayFactors.{factor_starts}
use Rattle.words.specs.Laws.ArrayFactors.{array_factorization}
use Rattle.words.specs.Compute.LyndonArray.{array_of, array_of_holds}

-- The starts of the factors of a text.
abbrev pub factorization_of {ℓ κ} : {A : Type ℓ} {O : Letters {ℓ, κ} A} → Decided O → List A → List ℕ
factorization_of D x = factor_starts (array_of D x)

-- They are the factorization.
pub factorization_of_holds {ℓ κ} : {A : Type ℓ} {O : Letters {ℓ, κ} A} (D : Decided O) (x : List A) → IsFactorization O x (factorization_of D x)
factorization_of_holds {O = O} D x = array_factorization O x (array_of D x) (array_of_holds D x)
