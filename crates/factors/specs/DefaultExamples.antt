-- Factor list, its comparisons and Lyndon suffix table in the default order and in order 0, computed.
-- Assumes nothing.
use Rattle.std.specs.Prelude.{◌≡◌, refl, List, [], ◌∷◌, ℕ}
use Rattle.letters.specs.BuiltIn.{folded_numbers}
use Rattle.letters.specs.RankExample.{text}
use Rattle.factors.specs.Answers.{default_factors, default_comparisons, default_suffix_table, factors_in, scan_comparisons, suffix_table_in}

-- `TaTAt`: T, aT and At, found with four comparisons, where order 0 has Ta, T and At, found with five.
default_and_rising_factors : (default_factors text ≡ 0 ∷ 1 ∷ 3 ∷ []) × (factors_in 0 [] text ≡ 0 ∷ 2 ∷ 3 ∷ [])
unfolding folded_numbers
default_and_rising_factors = (refl, refl)

default_and_rising_comparisons : (default_comparisons text ≡ 4) × (scan_comparisons 0 [] text ≡ 5)
unfolding folded_numbers
default_and_rising_comparisons = (refl, refl)

default_and_rising_table : (default_suffix_table text ≡ 1 ∷ 1 ∷ 2 ∷ 1 ∷ 2 ∷ []) × (suffix_table_in 0 [] text ≡ 1 ∷ 2 ∷ 1 ∷ 1 ∷ 2 ∷ [])
unfolding folded_numbers
default_and_rising_table = (refl, refl)

-- `a[`: the byte 91 stands before a, and behind A, so that the default order makes one word of it.
abbrev bracket : List ℕ
bracket = 97 ∷ 91 ∷ []

factors_of_bracket : (default_factors bracket ≡ 0 ∷ []) × (factors_in 0 [] bracket ≡ 0 ∷ 1 ∷ [])
unfolding folded_numbers
factors_of_bracket = (refl, refl)
