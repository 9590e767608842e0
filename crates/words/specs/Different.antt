-- Lists of different elements.
-- Assumes nothing.
use mathlib.Core.List.{List, [], ◌∷◌, Memᴰ}

-- No element stands twice; `Memᴰ b bs` says that b stands in the list bs.
abbrev pub Different {ℓ} : {B : Type ℓ} → List B → Type ℓ
Different [] = Unit {ℓ}
Different (b ∷ bs) = (¬ Memᴰ b bs) × Different bs
