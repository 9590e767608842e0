-- That what is defined is there, for letters of any kind: where the letters of the text itself are compared, and for all letters where
-- excluded middle is assumed. What is said so of the run list stands in `proofs/Existence`.
-- Assumes nothing: excluded middle is a hypothesis of the theorem that uses it.
use Prim.Axiom.{Lem}
use Rattle.std.specs.Prelude.{◌≡◌, ℕ}
use Rattle.std.proofs.Math.Logic.{∥∥₁_prop}
use mathlib.Core.List.{List, [], ◌∷◌, Memᴰ}
use Rattle.words.specs.Letters.{Letters}
use Rattle.words.specs.LyndonArray.{IsLyndonArray}
use Rattle.words.specs.Factorization.{IsFactorization}
use Rattle.words.specs.SuffixTable.{IsSuffixTable}
use Rattle.words.specs.ExactlyOne.{ExactlyOne, NeitherTwoNorNone, Buffers, RightForestOf, LeftForestOf, array_for_all, factorization_for_all}
use Rattle.words.specs.ExactlyOne.{suffix_table_for_all, right_forest_for_all, left_forest_for_all}
use Rattle.words.specs.Laws.Letters.{Compared}
use Rattle.words.specs.Laws.Lyndon.{LyndonTest}
use Rattle.words.specs.Laws.Members.{position_member}
use Rattle.words.specs.Laws.SpanLyndon.{letters}
use Rattle.words.specs.Laws.Existence.{empty_test, compared_test, tested_array, tested_factorization, tested_suffix_table, tested_right_forest, tested_left_forest}

-- The letters of x are compared: of any two of them one is smaller, or they are the same. Of other letters nothing is known.
abbrev pub LettersCompared {ℓ κ} : {A : Type ℓ} → Letters {ℓ, κ} A → List A → Type (ℓ ⊔ κ)
LettersCompared {A = A} O x = (a b : A) → Memᴰ a x → Memᴰ b x → Compared O a b

-- It is decided which letters of x are the same.
abbrev pub LettersDecided {ℓ} : {A : Type ℓ} → List A → Type ℓ
LettersDecided {A = A} x = (a b : A) → Memᴰ a x → Memᴰ b x → Dec (a ≡ b)

-- A value that has the property is the only one.
pub only_one {μ ν} : {B : Type μ} {P : B → Type ν} → NeitherTwoNorNone P → (b : B) × P b → (b : B) × ExactlyOne P b
only_one never_two p = (p.0, record { holds = p.1; only = λ b h. never_two.not_two b p.0 h p.1 })

module _ {ℓ κ} {A : Type ℓ} (O : Letters {ℓ, κ} A) (x : List A) (compared : LettersCompared O x) where
  text_test : LyndonTest O x
  text_test = go x compared
    where
      go : (y : List A) → LettersCompared O y → LyndonTest O y
      go [] c = empty_test O
      go (z ∷ y) c =
          compared_test O z (z ∷ y)
          (λ i j h l. c (letters z (z ∷ y) i) (letters z (z ∷ y) j) (position_member z (z ∷ y) i h) (position_member z (z ∷ y) j l))

  -- The text has exactly one Lyndon array.
  pub compared_array : (a : List ℕ) × ExactlyOne (IsLyndonArray O x) a
  compared_array = only_one (array_for_all O x) (tested_array text_test)

  -- It has exactly one factorization.
  pub compared_factorization : (s : List ℕ) × ExactlyOne (IsFactorization O x) s
  compared_factorization = only_one (factorization_for_all O x) (tested_factorization text_test)

  -- It has exactly one Lyndon suffix table.
  pub compared_suffix_table : (t : List ℕ) × ExactlyOne (IsSuffixTable O x) t
  compared_suffix_table = only_one (suffix_table_for_all O x) (tested_suffix_table text_test)

  -- It has exactly one right forest.
  pub compared_right_forest : (b : Buffers) × ExactlyOne (RightForestOf O x) b
  compared_right_forest =
      let f = tested_right_forest text_test in
      only_one (right_forest_for_all O x) (record { first = f.0; past = f.1 }, f.2)

  -- It has exactly one left forest.
  pub compared_left_forest : (b : Buffers) × ExactlyOne (LeftForestOf O x) b
  compared_left_forest =
      let f = tested_left_forest text_test in
      only_one (left_forest_for_all O x) (record { first = f.0; past = f.1 }, f.2)

-- By excluded middle there is exactly one of whatever there are never two and never none: of the array, the factorization, the suffix
-- table, the forests, the run list and the prefix standard permutation of every text over letters of any kind (`.._for_all` of ExactlyOne).
pub by_excluded_middle {μ ν} : Lem {μ ⊔ ν} → {B : Type μ} {P : B → Type ν} → NeitherTwoNorNone P → ∥ ((b : B) × ExactlyOne P b) ∥₁
by_excluded_middle lem {B = B} {P = P} neither = go (lem ∥ ((b : B) × ExactlyOne P b) ∥₁ ∥∥₁_prop)
  where
    go : Dec ∥ ((b : B) × ExactlyOne P b) ∥₁ → ∥ ((b : B) × ExactlyOne P b) ∥₁
    go (yes e) = e
    go (no n) = absurd (neither.not_none (λ p. n ∣ only_one neither p ∣₁))

-- So every text has exactly one Lyndon array, and so on.
pub array_by_excluded_middle {ℓ κ} : Lem {ℓ ⊔ κ} → {A : Type ℓ} (O : Letters {ℓ, κ} A) (x : List A) → ∥ ((a : List ℕ) × ExactlyOne (IsLyndonArray O x) a) ∥₁
array_by_excluded_middle lem O x = by_excluded_middle lem (array_for_all O x)
