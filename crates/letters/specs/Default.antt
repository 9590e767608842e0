-- The default order: that of factor list, suffix table and left forest where the call takes no order.
-- Assumes nothing.
use Rattle.std.specs.Prelude.{◌≡◌, refl, ◌⊎◌, List, [], ◌∷◌, ℕ, ◌<◌, length, get_or}
use Rattle.letters.specs.Ranks.{rank_row}
use Rattle.letters.specs.BuiltIn.{folded_numbers, built_in_table}

-- Its ranks (document 02, E12: "On the byte calls the default order becomes house table 1"): a to z rank as A to Z, every other byte by its
-- number. They are compared as in order 2 of document 02's E1.
abbrev pub default_table : List ℕ
default_table = built_in_table 1

-- What is compared in the default order, rising: the row of ranks.
abbrev pub default_row : List ℕ → List ℕ
default_row x = rank_row default_table x

-- Of `aB[` it is `AB[`.
row_example : default_row (97 ∷ 66 ∷ 91 ∷ []) ≡ 65 ∷ 66 ∷ 91 ∷ []
unfolding folded_numbers
row_example = refl

-- No letter of x is one of low to high.
pub record Without (low high : ℕ) (x : List ℕ) : Type 0 where
  pub outside : (i : ℕ) → i < length x → (get_or x i 0 < low) ⊎ (high < get_or x i 0)

-- A text without a to z, or without the bytes 65 to 96, A to Z and the six between Z and a: on it the default order changes nothing
-- (`DefaultLaws` `default_alike`).
abbrev pub Unmixed : List ℕ → Type 0
Unmixed x = Without 97 122 x ⊎ Without 65 96 x
