-- Factors and comparisons of Duval's scan are the same whatever stands for a letter past the end of the text.
-- Assumes nothing.
use Rattle.std.specs.Prelude.{◌≡◌, refl, List, [], ◌∷◌, ℕ, zero, suc, ◌<◌, length, get_or}
use Rattle.std.proofs.Common.{ap₂, arith}
use Rattle.words.specs.Letters.{Letters}
use Rattle.words.specs.Decided.{Decided}
use Rattle.factors.specs.Duval.{duval}
use Rattle.factors.specs.DuvalAlike.{duval_alike}

module _ {ℓ κ} {A : Type ℓ} {O : Letters {ℓ, κ} A} (D : Decided O) (z w : A) where
  letter_inside : (x : List A) (i : ℕ) → i < length x → get_or x i z ≡ get_or x i w
  letter_inside [] i l = absurd (omega arith)
  letter_inside (a ∷ x) zero l = refl
  letter_inside (a ∷ x) (suc i) l = letter_inside x i (omega arith)

  pub duval_past : (x : List A) → duval D z x ≡ duval D w x
  duval_past x = duval_alike D D z w x x refl (λ i j l m. ap₂ D.compare (letter_inside x i l) (letter_inside x j m))
