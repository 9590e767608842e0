-- The left forest of `TaTAt` in the default order and in order 0, computed.
-- Assumes nothing.
use Rattle.std.specs.Prelude.{◌≡◌, refl, [], ◌∷◌}
use Rattle.letters.specs.BuiltIn.{folded_numbers}
use Rattle.letters.specs.RankExample.{text}
use Rattle.left_forest.specs.Answers.{default_left_first, default_left_past, left_first_in, left_past_in}

-- aT and At are cut before their second letters.
default_forest : (default_left_first text ≡ 0 ∷ 1 ∷ 1 ∷ 3 ∷ 3 ∷ []) × (default_left_past text ≡ 0 ∷ 1 ∷ 3 ∷ 3 ∷ 5 ∷ [])
unfolding folded_numbers
default_forest = (refl, refl)

-- Ta and At are.
rising_forest : (left_first_in 0 [] text ≡ 0 ∷ 0 ∷ 2 ∷ 3 ∷ 3 ∷ []) × (left_past_in 0 [] text ≡ 0 ∷ 2 ∷ 2 ∷ 3 ∷ 5 ∷ [])
rising_forest = (refl, refl)
