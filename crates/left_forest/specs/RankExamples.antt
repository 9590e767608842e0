-- The left forest of `TaTAt` by rank and in falling order, computed.
-- Assumes nothing.
use Rattle.std.specs.Prelude.{◌≡◌, refl, [], ◌∷◌}
use Rattle.letters.specs.RankExample.{table, text}
use Rattle.left_forest.specs.Answers.{left_first_in, left_past_in}

-- By rank Ta and TA are cut before their second letters.
ranked : (left_first_in 2 table text ≡ 0 ∷ 0 ∷ 2 ∷ 2 ∷ 4 ∷ []) × (left_past_in 2 table text ≡ 0 ∷ 2 ∷ 2 ∷ 4 ∷ 4 ∷ [])
ranked = (refl, refl)

-- Falling: aTA is cut into aT and A, and aT into its letters.
in_falling_order : (left_first_in 1 table text ≡ 0 ∷ 1 ∷ 1 ∷ 1 ∷ 4 ∷ []) × (left_past_in 1 table text ≡ 0 ∷ 1 ∷ 3 ∷ 4 ∷ 4 ∷ [])
in_falling_order = (refl, refl)
