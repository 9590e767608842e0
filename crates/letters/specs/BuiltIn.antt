-- The built-in rank tables (document 02, E9: the tables of the house, which nobody changes).
-- Assumes nothing.
use Rattle.std.specs.Prelude.{◌&&◌, cond, List, ℕ, ◌-◌, eqb, leb}
use Rattle.words.specs.Tabulate.{tabulate}
use Rattle.answer.specs.Limits.{table_length}
use Rattle.letters.specs.Ranks.{own_numbers}

-- a to z, the bytes 97 to 122, rank as A to Z, 32 before them; every other byte by its number.
abbrev pub folded_rank : ℕ → ℕ
folded_rank a = cond (leb 97 a && leb a 122) (a - 32) a

-- The ranks of all bytes with the cases folded.
unfoldable pub folded_numbers : List ℕ
folded_numbers = tabulate folded_rank 0 table_length

-- Built-in table 0 ranks each byte by its number; table 1 folds the cases. There are no others; any other number stands for table 1 here.
abbrev pub built_in_table : ℕ → List ℕ
built_in_table number = cond (eqb number 0) own_numbers folded_numbers
