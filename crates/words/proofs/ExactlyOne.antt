-- For letters whose comparisons are decided every text has exactly one prefix standard permutation, and where their equality is decided exactly one
-- run list. For all letters there is at most one run list, and that there is none is refuted.
-- Assumes nothing.
use Rattle.std.specs.Prelude.{List}
use Rattle.words.specs.Letters.{Letters}
use Rattle.words.specs.Decided.{Decided}
use Rattle.words.specs.Equality.{DecidedEquality}
use Rattle.words.specs.Runs.{IsRunList}
use Rattle.words.specs.PrefixPermutation.{IsPrefixPermutation}
use Rattle.words.specs.Compute.Runs.{runs_of}
use Rattle.words.proofs.Laws.RunSearch.{runs_of_holds}
use Rattle.words.specs.Compute.PrefixPermutation.{prefix_permutation_of}
use Rattle.words.proofs.Laws.RunExistence.{run_list_irrefutable}
use Rattle.words.proofs.Laws.Runs.{run_list_unique}
use Rattle.words.specs.Laws.PrefixPermutation.{prefix_permutation_unique, prefix_permutation_of_holds}
use Rattle.words.specs.ExactlyOne.{ExactlyOne, NeitherTwoNorNone}

module _ {ℓ κ} {A : Type ℓ} {O : Letters {ℓ, κ} A} (D : Decided O) (x : List A) where
  pub one_prefix_permutation : (z : A) → ExactlyOne (IsPrefixPermutation O x) (prefix_permutation_of D z x)
  one_prefix_permutation z =
      record {
        holds = prefix_permutation_of_holds D z x;
        only = λ b h. prefix_permutation_unique O x b (prefix_permutation_of D z x) h (prefix_permutation_of_holds D z x);
      }

pub one_run_list {ℓ} : {A : Type ℓ} (E : DecidedEquality A) (x : List A) → ExactlyOne (IsRunList x) (runs_of E x)
one_run_list E x = record { holds = runs_of_holds E x; only = λ b h. run_list_unique h (runs_of_holds E x) }

-- Letters of any kind, with no equality decided.
pub run_list_for_all {ℓ} : {A : Type ℓ} (x : List A) → NeitherTwoNorNone (IsRunList x)
run_list_for_all x = record { not_two = λ b c h k. run_list_unique h k; not_none = run_list_irrefutable x }
