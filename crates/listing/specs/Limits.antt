-- How long what the lister prints can be.
-- Assumes nothing.
use Rattle.std.specs.Prelude.{ℕ, ◌*◌}
use Rattle.answer.specs.Limits.{max_letters, max_runs}
use Rattle.bed.specs.Limits.{max_line}

-- What is printed for an input is not longer: a line for each run.
abbrev pub max_listing : ℕ
max_listing = max_line * max_runs max_letters
