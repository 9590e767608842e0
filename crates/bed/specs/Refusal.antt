-- The line of a refusal: `refused`, its number, `at` and its position, with spaces between them.
-- Assumes nothing.
use Rattle.std.specs.Prelude.{cond, List, [], ◌∷◌, ◌++◌, ℕ, ltb}
use Rattle.bed.specs.Decimal.{decimal_of}
use Rattle.bed.specs.Limits.{max_refusal}

-- `refused` and a space.
abbrev pub refused_label : List ℕ
refused_label = 114 ∷ 101 ∷ 102 ∷ 117 ∷ 115 ∷ 101 ∷ 100 ∷ 32 ∷ []

-- `at` between two spaces.
abbrev pub at_label : List ℕ
at_label = 32 ∷ 97 ∷ 116 ∷ 32 ∷ []

-- `refused N at P` and LF.
abbrev pub refusal_line : ℕ → ℕ → List ℕ
refusal_line n p = refused_label ++ (decimal_of n ++ (at_label ++ (decimal_of p ++ (10 ∷ []))))

-- The line written into so many places: none where they are too few for the longest one.
abbrev pub refusal_fitting : ℕ → ℕ → ℕ → List ℕ
refusal_fitting n p places = cond (ltb places max_refusal) [] (refusal_line n p)
