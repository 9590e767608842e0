-- The starts of the factors read off an array alone.
-- Assumes nothing.
use Rattle.std.specs.Prelude.{true, false, List, [], ◌∷◌, ℕ, zero, suc, ◌+◌, length, get_or, ltb}

-- i, i + entry i, and so on while below the length, at most `fuel` of them.
abbrev pub starts_from : List ℕ → ℕ → ℕ → List ℕ
starts_from a zero i = []
starts_from a (suc fuel) i = elim (ltb i (length a)) [ true ↦ i ∷ starts_from a fuel (i + get_or a i 0) | false ↦ [] ]

-- The starts of the factors of a text that has the array: each factor is the longest Lyndon word at its start.
abbrev pub factor_starts : List ℕ → List ℕ
factor_starts a = starts_from a (length a) 0
