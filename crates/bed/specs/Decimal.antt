-- Numbers in decimal, as bytes.
-- Assumes nothing.
use Rattle.std.specs.Prelude.{true, false, List, [], ◌∷◌, ◌++◌, ℕ, zero, suc, ◌+◌, ◌/◌, ◌%◌, ltb}

-- The byte of a digit: 48 is '0'.
abbrev pub digit : ℕ → ℕ
digit d = 48 + d

-- The decimal digits of a number n, the first one first, where there are at most k + 1 of them.
abbrev pub decimal_within : ℕ → ℕ → List ℕ
decimal_within zero n = digit n ∷ []
decimal_within (suc k) n = elim (ltb n 10) [ true ↦ digit n ∷ [] | false ↦ decimal_within k (n / 10) ++ (digit (n % 10) ∷ []) ]

-- The decimal digits of n. It has no more than n + 1.
abbrev pub decimal_of : ℕ → List ℕ
decimal_of n = decimal_within n n
