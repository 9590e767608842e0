-- Words and their order.
-- Assumes nothing.
use Rattle.std.specs.Prelude.{◌≡◌, ◌⊎◌, List, [], ◌∷◌, ◌++◌, ℕ, take, drop}
use Rattle.words.specs.Letters.{Letters, Smaller}

-- The word that a text has from position i up to, and without, position e (document 01: "A span from i to e holds positions i to e − 1").
abbrev pub span {ℓ} : {A : Type ℓ} → ℕ → ℕ → List A → List A
span i e x = drop i (take e x)

-- u is a proper prefix of v: v is u and at least one letter more.
pub record ProperPrefix {ℓ} {A : Type ℓ} (u v : List A) : Type ℓ where
  pub rest : List A
  pub more : ¬ (rest ≡ [])
  pub joined : v ≡ u ++ rest

-- u is strongly less than v (document 000, "Definitions"): there are words r, s and t, and letters a and b, with u = r·a·s, v = r·b·t
-- and a smaller than b.
pub record StronglyLess {ℓ κ} {A : Type ℓ} (O : Letters {ℓ, κ} A) (u v : List A) : Type (ℓ ⊔ κ) where
  pub r : List A
  pub s : List A
  pub t : List A
  pub a : A
  pub b : A
  pub left : u ≡ r ++ (a ∷ s)
  pub right : v ≡ r ++ (b ∷ t)
  pub smaller : Smaller O a b

-- u is smaller than v (document 000, "Definitions"; document 01: "Words over them compare by the first letter that differs; a proper
-- prefix is smaller"): u is strongly less than v, or a proper prefix of it.
abbrev pub Less {ℓ κ} : {A : Type ℓ} → Letters {ℓ, κ} A → List A → List A → Type (ℓ ⊔ κ)
Less O u v = StronglyLess O u v ⊎ ProperPrefix u v
