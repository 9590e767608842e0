-- A forest gives each position of its text FIRST and PAST exactly once: from left to right, the starts of the factors and the cuts of their
-- trees are 0, 1, .., n − 1.
-- Assumes nothing.
use Rattle.std.specs.Prelude.{◌≡◌, List, [], ◌∷◌, ◌++◌, ℕ, suc, ◌+◌, ◌-◌, ◌<◌, ◌≤◌, length, get_or}
use Rattle.std.proofs.Common.{arith}
use Rattle.words.specs.Letters.{Letters}
use Rattle.words.specs.CutTree.{cuts, Tree, IsForest}
use Rattle.words.specs.RightForest.{IsRightForest}
use Rattle.words.specs.LeftForest.{IsLeftForest}
use Rattle.words.specs.Tabulate.{tabulate}
use Rattle.words.specs.Laws.Tabulate.{tabulate_append}
use Rattle.words.specs.Laws.Factorization.{Divides, division_reaches, factors_divide}
use Rattle.words.specs.Laws.Unique.{cuts_are}

-- A tree for each of the factors that start at s, the last of which ends at n.
abbrev pub Trees {ρ} : (ℕ → ℕ → ℕ → Type ρ) → List ℕ → List ℕ → List ℕ → ℕ → Type ρ
Trees Rule first past s n = (k : ℕ) → k < length s → Tree Rule first past (get_or s k 0) (get_or s (suc k) n)

-- The positions that the trees give FIRST and PAST, from left to right: the start of each factor, and then the cuts of its tree.
abbrev pub given {ρ} : {Rule : ℕ → ℕ → ℕ → Type ρ} {first past : List ℕ} (s : List ℕ) (n : ℕ) → Trees Rule first past s n → List ℕ
given [] n f = []
given (a ∷ s) n f = a ∷ (cuts (f 0 (omega arith)).tree ++ given s n (λ k h. f (suc k) (omega arith)))

-- The positions that a forest gives FIRST and PAST.
abbrev pub positions {ℓ κ ρ} : {A : Type ℓ} {O : Letters {ℓ, κ} A} {Rule : ℕ → ℕ → ℕ → Type ρ} {x : List A} {first past : List ℕ} → IsForest O Rule x first past → List ℕ
positions {x = x} f = given f.starts (length x) f.factor

module _ {ρ} {Rule : ℕ → ℕ → ℕ → Type ρ} (inside : (a c b : ℕ) → Rule a c b → (a < c) × (c < b)) {first past : List ℕ} where
  -- Trees over parts that divide the span from i to n are given each of its positions.
  given_are : (i : ℕ) (s : List ℕ) (n : ℕ) → Divides i s n → (f : Trees Rule first past s n) → given s n f ≡ tabulate (λ j. j) i (n - i)
  given_are i [] n d f =
      let e : n - i ≡ 0 = omega arith in
      rw e
  given_are i (a ∷ s) n d f =
      let b : ℕ = get_or s 0 n in
      let r : b ≤ n = division_reaches b s n d.2 0 in
      let k : ℕ = b - suc a in
      let e : n - i ≡ suc (k + (n - b)) = omega (arith, d.0, d.1) in
      let c : b ≡ suc a + k = omega (arith, d.1) in
      rw (
        e,
        d.0,
        cuts_are (f 0 (omega arith)).tree inside,
        given_are b s n d.2 (λ k h. f (suc k) (omega arith)),
        ← tabulate_append (λ j. j) (suc a) k (n - b),
        ← c,
      )

module _ {ℓ κ} {A : Type ℓ} {O : Letters {ℓ, κ} A} {x : List A} {first past : List ℕ} where
  -- A forest under a rule that cuts inside a span.
  pub forest_positions {ρ} : {Rule : ℕ → ℕ → ℕ → Type ρ} → ((a c b : ℕ) → Rule a c b → (a < c) × (c < b)) → (f : IsForest O Rule x first past)
      → positions f ≡ tabulate (λ j. j) 0 (length x)
  forest_positions inside f =
      let z : length x - 0 ≡ length x = omega arith in
      rw z at (given_are inside 0 f.starts (length x) (factors_divide f.factorization) f.factor)

  -- The right forest.
  pub right_forest_positions : (f : IsRightForest O x first past) → positions f ≡ tabulate (λ j. j) 0 (length x)
  right_forest_positions f = forest_positions (λ a c b r. (r.proper, r.non_empty)) f

  -- The left forest.
  pub left_forest_positions : (f : IsLeftForest O x first past) → positions f ≡ tabulate (λ j. j) 0 (length x)
  left_forest_positions f = forest_positions (λ a c b r. (r.non_empty, r.proper)) f
