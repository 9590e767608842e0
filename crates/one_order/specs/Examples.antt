-- Why one order: a factor list in the default order does not follow from a rising array (document 02, E12).
-- Assumes nothing.
use Rattle.std.specs.Prelude.{◌≡◌, refl, List, [], ◌∷◌, ℕ, length}
use Rattle.std.proofs.Common.{sym, ap, ◌∙◌, arith}
use Rattle.letters.specs.BuiltIn.{folded_numbers}
use Rattle.letters.specs.Default.{default_table}
use Rattle.array.specs.Calls.{array_in}
use Rattle.factors.specs.Answers.{default_factors, factors_in}

-- `aB`.
abbrev mixed : List ℕ
mixed = 97 ∷ 66 ∷ []

-- It is one factor in the default order, and its rising array is 1 1.
pub one_factor : (default_factors mixed ≡ 0 ∷ []) × (array_in 0 [] mixed ≡ 1 ∷ 1 ∷ [])
unfolding folded_numbers
one_factor = (refl, refl)

-- The array that goes with that factor is the one by the default table; the factors that go with the rising array are those of order 0.
pub in_one_order : (array_in 2 default_table mixed ≡ 2 ∷ 1 ∷ []) × (factors_in 0 [] mixed ≡ 0 ∷ 1 ∷ [])
unfolding folded_numbers
in_one_order = (refl, refl)

-- `ba` has the same rising array, and two factors in the default order.
abbrev plain : List ℕ
plain = 98 ∷ 97 ∷ []

two_factors : (default_factors plain ≡ 0 ∷ 1 ∷ []) × (array_in 0 [] plain ≡ 1 ∷ 1 ∷ [])
unfolding folded_numbers
two_factors = (refl, refl)

-- So texts of one length with equal rising arrays may have different factor lists in the default order.
pub two_orders_differ :
    ¬ ((x y : List ℕ) → length x ≡ length y → array_in 0 [] x ≡ array_in 0 [] y → default_factors x ≡ default_factors y)
two_orders_differ claim =
    let same : ◌≡◌ {A = ℕ} 1 2 =
    ap length (sym one_factor.0 ∙ claim mixed plain refl (one_factor.1 ∙ sym two_factors.1) ∙ two_factors.0) in
    omega arith
