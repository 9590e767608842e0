-- Bytes packed into one number: document 02's word, the first byte lowest.
-- Assumes nothing.
use Rattle.std.specs.Prelude.{◌≡◌, refl, List, [], ◌∷◌, ℕ, zero, suc, ◌+◌, ◌*◌, ◌/◌, ◌%◌}

-- The number of a row of bytes.
abbrev pub packed : List ℕ → ℕ
packed [] = 0
packed (a ∷ x) = packed x * 256 + a

-- The row of a number's m lowest bytes.
unfoldable pub unpacked : ℕ → ℕ → List ℕ
unpacked zero n = []
unpacked (suc m) n = n % 256 ∷ unpacked m (n / 256)

-- `ACGT`.
packed_example : packed (65 ∷ 67 ∷ 71 ∷ 84 ∷ []) ≡ 1413956417
packed_example = refl

unpacked_example : unpacked 4 1413956417 ≡ 65 ∷ 67 ∷ 71 ∷ 84 ∷ []
unfolding unpacked
unpacked_example = refl
