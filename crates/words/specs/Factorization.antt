-- The Lyndon factorization of a text.
-- Assumes nothing.
use Rattle.std.specs.Prelude.{◌≡◌, List, [], ◌∷◌, ◌++◌, ℕ, ◌+◌, length}
use Rattle.words.specs.Letters.{Letters}
use Rattle.words.specs.Word.{Less}
use Rattle.words.specs.Lyndon.{Lyndon}

-- The words one after another.
abbrev pub joined {ℓ} : {A : Type ℓ} → List (List A) → List A
joined [] = []
joined (u ∷ us) = u ++ joined us

-- Each of the words is a Lyndon word.
abbrev pub AllLyndon {ℓ κ} : {A : Type ℓ} → Letters {ℓ, κ} A → List (List A) → Type (ℓ ⊔ κ)
AllLyndon O [] = Unit {ℓ ⊔ κ}
AllLyndon O (u ∷ us) = Lyndon O u × AllLyndon O us

-- u0 ≥ u1 ≥ ..: no word is smaller than the one after it. "Not smaller" is "≥": exactly so where comparisons are decided, and for all
-- letters up to what cannot be refuted (`Laws/WordOrder`).
abbrev pub NeverRising {ℓ κ} : {A : Type ℓ} → Letters {ℓ, κ} A → List (List A) → Type (ℓ ⊔ κ)
NeverRising O [] = Unit {ℓ ⊔ κ}
NeverRising O (u ∷ []) = Unit {ℓ ⊔ κ}
NeverRising O (u ∷ v ∷ us) = (¬ Less O u v) × NeverRising O (v ∷ us)

-- Where each of the words starts, the first at i.
abbrev pub starts {ℓ} : {A : Type ℓ} → ℕ → List (List A) → List ℕ
starts i [] = []
starts i (u ∷ us) = i ∷ starts (i + length u) us

-- s holds the starts of the factors of x (document 01's factor list; document 002, "Lyndon arrays (4)", 2; document 000, section 6).
pub record IsFactorization {ℓ κ} {A : Type ℓ} (O : Letters {ℓ, κ} A) (x : List A) (s : List ℕ) : Type (ℓ ⊔ κ) where
  pub factors : List (List A)
  pub whole : joined factors ≡ x
  pub lyndon : AllLyndon O factors
  pub never_rising : NeverRising O factors
  pub places : s ≡ starts 0 factors
