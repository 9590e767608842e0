-- Array and runs of `TaTAt` by rank, computed.
-- Assumes nothing.
use Rattle.std.specs.Prelude.{◌≡◌, refl, [], ◌∷◌}
use Rattle.letters.specs.Ranks.{rank_row}
use Rattle.letters.specs.RankExample.{table, text}
use Rattle.array.specs.Calls.{array_in, run_numbers, both_arrays}

-- Its array by rank, and by its letters in order 0, where T is the greatest of the capitals and every small letter is greater.
ranked_example : array_in 2 table text ≡ 2 ∷ 1 ∷ 2 ∷ 1 ∷ 1 ∷ []
ranked_example = refl

rising_example : array_in 0 table text ≡ 2 ∷ 1 ∷ 1 ∷ 2 ∷ 1 ∷ []
rising_example = refl

-- By rank it is one run of period 2; by its letters it has none.
run_example : run_numbers (rank_row table text) ≡ 0 ∷ 4 ∷ 2 ∷ []
run_example = refl

no_run_example : run_numbers text ≡ []
no_run_example = refl

-- The arrays rising and falling by rank.
work_example : both_arrays (rank_row table text) ≡ 2 ∷ 1 ∷ 2 ∷ 1 ∷ 1 ∷ 1 ∷ 2 ∷ 1 ∷ 2 ∷ 1 ∷ []
work_example = refl
