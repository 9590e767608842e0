-- An answer as C has it, and how C says that a built-in table is meant.
-- Assumes nothing.
use Rattle.std.specs.Prelude.{Bool, not, ℕ, eqb}
use Rattle.answer.specs.declared.Answer.{Answer}
use Rattle.answer.specs.Answers.{number, value, comparisons}
use Rattle.table_store.specs.declared.store.TableName.{TableName}
use Rattle.lyndon_c.specs.declared.LyndonAnswer.{LyndonAnswer}

-- The answer's number, value and comparisons.
abbrev pub record_of : Answer → LyndonAnswer
record_of a = record { number = number a; value = value a; comparisons = comparisons a }

-- 0 for the group's own tables, any other number for the built-in ones.
abbrev pub is_built_in : ℕ → Bool
is_built_in n = not (eqb n 0)

-- The table that a call names.
abbrev pub name_of : ℕ → ℕ → ℕ → TableName
name_of group builtin number = record { group = group; builtin = is_built_in builtin; number = number }
