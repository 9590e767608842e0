-- The limits of documents 01 and 02.
-- Assumes nothing.
use Rattle.std.specs.Prelude.{ℕ, ◌-◌, ◌*◌, ◌≤◌}

-- A text has 1 to so many letters ("The words used").
abbrev pub max_length : ℕ
max_length = 1048576

-- A text, or an array, of 1 to 1,048,576 letters, or entries.
pub record Sized (n : ℕ) : Type 0 where
  pub some : 1 ≤ n
  pub short : n ≤ max_length

-- The reader hands on at most so many letters, and needs a buffer of that length (document 02, E4; refusals 4 and 14).
abbrev pub max_letters : ℕ
max_letters = 4096

-- A FASTA input has at most so many bytes (document 02, E4; refusal 15).
abbrev pub max_input : ℕ
max_input = 16384

-- A text of n letters has at most so many runs (document 02, E4; `RunsTheorem` of `words`).
abbrev pub max_runs : ℕ → ℕ
max_runs n = n - 1

-- The length that its run list needs: three numbers for each, so none for one letter.
abbrev pub run_list_length : ℕ → ℕ
run_list_length n = 3 * max_runs n

-- A word of n letters has so many proper non-empty prefixes, for each of which the prefix permutation needs a place (document 02, E5; refusal 4).
abbrev pub prefix_count : ℕ → ℕ
prefix_count n = n - 1

-- The length that the work buffer of the runs needs ("Places needed", refusal 5).
abbrev pub work_length : ℕ → ℕ
work_length n = 2 * n

-- The order number that stands for a rank table, and the last that the ranked forms take (document 02, E1; refusal 3).
abbrev pub ranked_order : ℕ
ranked_order = 2

-- A rank table has so many entries, one for each byte (document 02, E1; refusal 16).
abbrev pub table_length : ℕ
table_length = 256
