-- The tables that the code compares bytes by: the ranks of an order, and its keys, of which the smaller one is the smaller letter.
-- Assumes nothing.
use Rattle.std.specs.Prelude.{cond, List, ℕ, ◌-◌, eqb, length, get_or}
use Rattle.words.specs.Tabulate.{tabulate}
use Rattle.answer.specs.Limits.{table_length}
use Rattle.checks.specs.Checks.{uses_table}

-- The rank of a byte in an order: by the table in order 2, where that has 256 entries, and else the byte's own number.
abbrev pub rank_in : ℕ → List ℕ → ℕ → ℕ
rank_in order table a = cond (uses_table order) (cond (eqb (length table) table_length) (get_or table a 0) a) a

-- The ranks of all bytes in an order.
unfoldable pub rank_table : ℕ → List ℕ → List ℕ
rank_table order table = tabulate (rank_in order table) 0 table_length

-- A table of bytes turned round: the greater rank comes first.
unfoldable pub turned_table : List ℕ → List ℕ
turned_table table = tabulate (λ a. 255 - get_or table a 0) 0 table_length

-- The keys of an order: the ranks, turned round in order 1.
abbrev pub key_table : ℕ → List ℕ → List ℕ
key_table order table = cond (eqb order 1) (turned_table (rank_table order table)) (rank_table order table)
