-- The longest common prefix of two words.
-- Assumes nothing.
use Rattle.std.specs.Prelude.{true, false, List, [], ◌∷◌, ℕ, suc, eqb}

-- The number of letters on which two words agree from their starts.
abbrev pub common_prefix : List ℕ → List ℕ → ℕ
common_prefix [] v = 0
common_prefix (a ∷ u) [] = 0
common_prefix (a ∷ u) (b ∷ v) = elim (eqb a b) [ true ↦ suc (common_prefix u v) | false ↦ 0 ]
