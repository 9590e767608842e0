-- How long a line can be.
-- Assumes nothing.
use Rattle.std.specs.Prelude.{ℕ, ◌+◌, ◌*◌}
use Rattle.fasta_record.specs.Name.{max_name}

-- A 32-bit number and the number after it have at most so many digits.
abbrev pub max_digits : ℕ
max_digits = 10

-- A BED line: the name, three tabs, `p`, LF and three numbers.
abbrev pub max_line : ℕ
max_line = max_name + (5 + 3 * max_digits)

-- The line of a refusal: `refused `, ` at `, LF and two numbers.
abbrev pub max_refusal : ℕ
max_refusal = 13 + 2 * max_digits
