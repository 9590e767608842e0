-- Factor list, its comparisons and Lyndon suffix table of `TaTAt` in each order, computed.
-- Assumes nothing.
use Rattle.std.specs.Prelude.{◌≡◌, refl, [], ◌∷◌}
use Rattle.letters.specs.RankExample.{table, text}
use Rattle.factors.specs.Answers.{factors_in, scan_comparisons, suffix_table_in}

-- By rank the factors are Ta, TA and t.
factors_ranked : factors_in 2 table text ≡ 0 ∷ 2 ∷ 4 ∷ []
factors_ranked = refl

-- By number, rising: Ta, T and At.
factors_rising : factors_in 0 table text ≡ 0 ∷ 2 ∷ 3 ∷ []
factors_rising = refl

-- Falling: T, aTA and t.
factors_falling : factors_in 1 table text ≡ 0 ∷ 1 ∷ 4 ∷ []
factors_falling = refl

comparisons_ranked : scan_comparisons 2 table text ≡ 4
comparisons_ranked = refl

comparisons_rising : scan_comparisons 0 table text ≡ 5
comparisons_rising = refl

comparisons_falling : scan_comparisons 1 table text ≡ 4
comparisons_falling = refl

table_ranked : suffix_table_in 2 table text ≡ 1 ∷ 2 ∷ 1 ∷ 2 ∷ 1 ∷ []
table_ranked = refl

table_rising : suffix_table_in 0 table text ≡ 1 ∷ 2 ∷ 1 ∷ 1 ∷ 2 ∷ []
table_rising = refl

table_falling : suffix_table_in 1 table text ≡ 1 ∷ 1 ∷ 2 ∷ 3 ∷ 1 ∷ []
table_falling = refl
