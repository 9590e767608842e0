-- A text and the table that its letters are compared by.
-- Assumes nothing.
use Rattle.std.specs.Prelude.{Bool, not, List, ℕ, eqb, get_or}
use Rattle.letters.specs.declared.Keyed.{Keyed}
use Rattle.letters.specs.Ranks.{rank_row}

-- What is compared of it: the row of the keys of its letters.
abbrev pub row : Keyed → List ℕ
row t = rank_row t.keys.now t.text.now

-- The letters at i and j differ.
abbrev pub letters_differ : List ℕ → ℕ → ℕ → Bool
letters_differ x i j = not (eqb (get_or x i 0) (get_or x j 0))
