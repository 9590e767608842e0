-- Letters by rank (document 02, E1): a table of 256 ranks, one for each byte, takes the place of the letters' own numbers.
-- Assumes nothing.
use Rattle.std.specs.Prelude.{Bool, not, cond, List, map, ℕ, eqb, get_or}
use Rattle.words.specs.Tabulate.{tabulate}
use Rattle.answer.specs.Limits.{table_length}
use Rattle.checks.specs.Checks.{uses_table}

-- The rank of a letter by a table: its entry.
abbrev pub rank_by : List ℕ → ℕ → ℕ
rank_by table a = get_or table a 0

-- The row of ranks of a text: two letters with one rank are the same letter in it.
abbrev pub rank_row : List ℕ → List ℕ → List ℕ
rank_row table x = map (rank_by table) x

-- The table that gives each byte its own number.
unfoldable pub own_numbers : List ℕ
own_numbers = tabulate (λ a. a) 0 table_length

-- What is compared in an order: the ranks in order 2, the letters themselves in orders 0 and 1.
abbrev pub row_in : ℕ → List ℕ → List ℕ → List ℕ
row_in order table x = cond (uses_table order) (rank_row table x) x

-- And how: ranks are compared as in order 0.
abbrev pub direction_of : ℕ → ℕ
direction_of order = cond (uses_table order) 0 order

-- Two letters differ in rank.
abbrev pub rank_differs : List ℕ → ℕ → ℕ → Bool
rank_differs table a b = not (eqb (rank_by table a) (rank_by table b))
