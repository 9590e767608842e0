-- A small text and a table for it, as examples compute on them: an order of the letters that is not theirs, and two letters with one rank.
-- Assumes nothing.
use Rattle.std.specs.Prelude.{◌≡◌, refl, cond, List, [], ◌∷◌, ℕ, eqb}
use Rattle.words.specs.Tabulate.{tabulate}
use Rattle.answer.specs.Limits.{table_length}
use Rattle.letters.specs.Ranks.{rank_row}

-- T before G, C and A, in either case, and all other bytes behind them with one rank.
abbrev rank : ℕ → ℕ
rank a =
    cond (eqb a 84) 0 (cond (eqb a 116) 0 (cond (eqb a 71) 1 (cond (eqb a 103) 1 (cond (eqb a 67) 2 (cond (eqb a 99) 2 (cond (eqb a 65) 3 (cond (eqb a 97) 3 4)))))))

abbrev pub table : List ℕ
table = tabulate rank 0 table_length

-- `TaTAt`.
abbrev pub text : List ℕ
text = 84 ∷ 97 ∷ 84 ∷ 65 ∷ 116 ∷ []

-- Its row of ranks.
row_example : rank_row table text ≡ 0 ∷ 3 ∷ 0 ∷ 3 ∷ 0 ∷ []
row_example = refl
