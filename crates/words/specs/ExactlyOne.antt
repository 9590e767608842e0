-- What makes the definitions definitions: for letters whose comparisons are decided every text has exactly one Lyndon array, factorization,
-- suffix table, right forest, left forest, run list and prefix standard permutation, and every array one verdict. For all ordered letters there
-- is at most one of each, and that there is none is refuted. What is said so of the run list, and the one prefix standard permutation of decided
-- letters, stand in `proofs/ExactlyOne`.
-- Assumes nothing.
use Rattle.std.specs.Prelude.{◌≡◌, List, ℕ}
use Rattle.words.specs.Letters.{Letters}
use Rattle.words.specs.Decided.{Decided}
use Rattle.words.specs.LyndonArray.{IsLyndonArray}
use Rattle.words.specs.Factorization.{IsFactorization}
use Rattle.words.specs.SuffixTable.{IsSuffixTable}
use Rattle.words.specs.RightForest.{IsRightForest}
use Rattle.words.specs.LeftForest.{IsLeftForest}
use Rattle.words.specs.PrefixPermutation.{IsPrefixPermutation}
use Rattle.words.specs.Compute.LyndonArray.{array_of, array_of_holds}
use Rattle.words.specs.Compute.Factorization.{factorization_of, factorization_of_holds}
use Rattle.words.specs.Compute.SuffixTable.{suffix_table_of, suffix_table_of_holds}
use Rattle.words.specs.Compute.LeftForest.{left_first_of, left_past_of}
use Rattle.words.specs.Laws.ForestRecords.{left_forest_of_holds}
use Rattle.words.specs.Compute.RightForest.{right_first_of, right_past_of, right_forest_of_holds}
use Rattle.words.specs.Compute.ValidArray.{HasVerdict, check_array, check_array_holds}
use Rattle.words.specs.Laws.Lyndon.{LyndonTest}
use Rattle.words.specs.Laws.Existence.{test_irrefutable, tested_array, tested_factorization, tested_suffix_table, tested_right_forest, tested_left_forest}
use Rattle.words.specs.Laws.Unique.{array_unique, suffix_table_unique}
use Rattle.words.specs.Laws.FactorChain.{factorization_unique}
use Rattle.words.specs.Laws.ForestUnique.{right_forest_unique, left_forest_unique}
use Rattle.words.specs.Laws.PrefixPermutation.{prefix_permutation_unique, prefix_permutation_irrefutable}
use Rattle.words.specs.Laws.ValidArray.{verdict_unique}

-- The value has the property, and no other has it.
pub record ExactlyOne {ℓ κ} {B : Type ℓ} (P : B → Type κ) (value : B) : Type (ℓ ⊔ κ) where
  pub holds : P value
  pub only : (b : B) → P b → b ≡ value

-- The two lists of a forest.
pub record Buffers : Type 0 where
  pub first : List ℕ
  pub past : List ℕ

-- Both lists are the right forest of x.
abbrev pub RightForestOf {ℓ κ} : {A : Type ℓ} → Letters {ℓ, κ} A → List A → Buffers → Type (ℓ ⊔ κ)
RightForestOf O x b = IsRightForest O x b.first b.past

-- Both lists are the left forest of x.
abbrev pub LeftForestOf {ℓ κ} : {A : Type ℓ} → Letters {ℓ, κ} A → List A → Buffers → Type (ℓ ⊔ κ)
LeftForestOf O x b = IsLeftForest O x b.first b.past

-- No two values have the property, and that none has it is refuted.
pub record NeitherTwoNorNone {ℓ κ} {B : Type ℓ} (P : B → Type κ) : Type (ℓ ⊔ κ) where
  pub not_two : (b c : B) → P b → P c → b ≡ c
  pub not_none : ¬ ¬ ((b : B) × P b)

-- FIRST and PAST in one.
both_buffers : {b c : Buffers} → (b.first ≡ c.first) × (b.past ≡ c.past) → b ≡ c
both_buffers e = λ i. record { first = e.0 i; past = e.1 i }

module _ {ℓ κ} {A : Type ℓ} {O : Letters {ℓ, κ} A} (D : Decided O) (x : List A) where
  pub one_array : ExactlyOne (IsLyndonArray O x) (array_of D x)
  one_array = record { holds = array_of_holds D x; only = λ b h. array_unique h (array_of_holds D x) }

  pub one_factorization : ExactlyOne (IsFactorization O x) (factorization_of D x)
  one_factorization =
      record {
        holds = factorization_of_holds D x;
        only = λ b h. factorization_unique O x b (factorization_of D x) h (factorization_of_holds D x);
      }

  pub one_suffix_table : ExactlyOne (IsSuffixTable O x) (suffix_table_of D x)
  one_suffix_table = record { holds = suffix_table_of_holds D x; only = λ b h. suffix_table_unique h (suffix_table_of_holds D x) }

  pub one_right_forest : ExactlyOne (RightForestOf O x) (record { first = right_first_of D x; past = right_past_of D x })
  one_right_forest =
      record { holds = right_forest_of_holds D x; only = λ b h. both_buffers (right_forest_unique h (right_forest_of_holds D x)) }

  pub one_left_forest :
      let s = factorization_of D x in ExactlyOne (LeftForestOf O x) (record { first = left_first_of D x s; past = left_past_of D x s })
  one_left_forest =
      let holds = left_forest_of_holds D x (factorization_of_holds D x) in
      record { holds = holds; only = λ b h. both_buffers (left_forest_unique h holds) }

-- All ordered letters, with no comparison decided.
module _ {ℓ κ} {A : Type ℓ} (O : Letters {ℓ, κ} A) (x : List A) where
  tested {μ ν} : {B : Type μ} {P : B → Type ν} → (LyndonTest O x → (b : B) × P b) → ¬ ¬ ((b : B) × P b)
  tested found never = test_irrefutable O x (λ t. never (found t))

  pub array_for_all : NeitherTwoNorNone (IsLyndonArray O x)
  array_for_all = record { not_two = λ b c h k. array_unique h k; not_none = tested tested_array }

  pub factorization_for_all : NeitherTwoNorNone (IsFactorization O x)
  factorization_for_all = record { not_two = factorization_unique O x; not_none = tested tested_factorization }

  pub suffix_table_for_all : NeitherTwoNorNone (IsSuffixTable O x)
  suffix_table_for_all = record { not_two = λ b c h k. suffix_table_unique h k; not_none = tested tested_suffix_table }

  pub right_forest_for_all : NeitherTwoNorNone (RightForestOf O x)
  right_forest_for_all =
      record {
        not_two = λ b c h k. both_buffers (right_forest_unique h k);
        not_none = tested (λ t. let f = tested_right_forest t in (record { first = f.0; past = f.1 }, f.2));
      }

  pub left_forest_for_all : NeitherTwoNorNone (LeftForestOf O x)
  left_forest_for_all =
      record {
        not_two = λ b c h k. both_buffers (left_forest_unique h k);
        not_none = tested (λ t. let f = tested_left_forest t in (record { first = f.0; past = f.1 }, f.2));
      }

  pub prefix_permutation_for_all : NeitherTwoNorNone (IsPrefixPermutation O x)
  prefix_permutation_for_all = record { not_two = prefix_permutation_unique O x; not_none = prefix_permutation_irrefutable O x }

pub one_verdict : (a : List ℕ) → ExactlyOne (HasVerdict a) (check_array a)
one_verdict a = record { holds = check_array_holds a; only = λ v h. verdict_unique a v (check_array a) h (check_array_holds a) }
