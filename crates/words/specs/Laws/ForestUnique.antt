-- A text has one right forest and one left forest.
-- Assumes nothing.
use Rattle.std.specs.Prelude.{◌≡◌, List, ℕ}
use Rattle.words.specs.Letters.{Letters}
use Rattle.words.specs.CutTree.{IsForest}
use Rattle.words.specs.RightForest.{IsRightForest}
use Rattle.words.specs.LeftForest.{IsLeftForest}
use Rattle.words.specs.Laws.Unique.{forest_unique, right_cut_unique, left_cut_unique}
use Rattle.words.specs.Laws.FactorChain.{factorization_unique}

module _ {ℓ κ} {A : Type ℓ} {O : Letters {ℓ, κ} A} {x : List A} {first past first' past' : List ℕ} where
  one_forest {ρ} : {Rule : ℕ → ℕ → ℕ → Type ρ} → ((a c e b : ℕ) → Rule a c b → Rule a e b → c ≡ e) → IsForest O Rule x first past →
      IsForest O Rule x first' past' → (first ≡ first') × (past ≡ past')
  one_forest one f g =
      forest_unique one f g (factorization_unique O x f.starts g.starts f.factorization g.factorization)

  pub right_forest_unique : IsRightForest O x first past → IsRightForest O x first' past' → (first ≡ first') × (past ≡ past')
  right_forest_unique f g = one_forest (λ a c e b u v. right_cut_unique u v) f g

  pub left_forest_unique : IsLeftForest O x first past → IsLeftForest O x first' past' → (first ≡ first') × (past ≡ past')
  left_forest_unique f g = one_forest (λ a c e b u v. left_cut_unique u v) f g
