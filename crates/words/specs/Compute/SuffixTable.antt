-- The Lyndon suffix table computed, for letters whose comparisons are decided.
-- Assumes nothing.
use Rattle.std.specs.Prelude.{Bool, List, ℕ, suc, ◌-◌, ◌<◌, length}
use Rattle.std.proofs.Common.{arith}
use Rattle.words.specs.Letters.{Letters}
use Rattle.words.specs.Decided.{Decided}
use Rattle.words.specs.Word.{span}
use Rattle.words.specs.SuffixTable.{LongestTo, IsSuffixTable}
use Rattle.words.specs.Tabulate.{tabulate}
use Rattle.words.specs.Laws.Tabulate.{length-tabulate, tabulate_each}
use Rattle.words.specs.Laws.Lyndon.{LyndonTest, test_letter}
use Rattle.words.specs.Compute.Lyndon.{lyndonb, lyndon_test}
use Rattle.words.specs.Compute.Search.{least_from, LeastFrom, least_from_holds, least_at_most}

-- Where the longest Lyndon word of x that ends at j starts.
abbrev pub start_of_longest {ℓ κ} : {A : Type ℓ} {O : Letters {ℓ, κ} A} → Decided O → List A → ℕ → ℕ
start_of_longest D x j = least_from (λ k. lyndonb D (span k (suc j) x)) 0 j

-- The length of the longest Lyndon word of x that ends at j.
abbrev pub longest_to {ℓ κ} : {A : Type ℓ} {O : Letters {ℓ, κ} A} → Decided O → List A → ℕ → ℕ
longest_to D x j = suc j - start_of_longest D x j

-- The Lyndon suffix table of x.
abbrev pub suffix_table_of {ℓ κ} : {A : Type ℓ} {O : Letters {ℓ, κ} A} → Decided O → List A → List ℕ
suffix_table_of D x = tabulate (longest_to D x) 0 (length x)

module _ {ℓ κ} {A : Type ℓ} {O : Letters {ℓ, κ} A} {x : List A} (t : LyndonTest O x) where
  -- The least start that passes a test for Lyndon words is that of the longest Lyndon word to j.
  pub least_longest : (j : ℕ) → j < length x → LongestTo O x j (suc j - least_from (λ k. t.test k (suc j)) 0 j)
  least_longest j h =
      let p : ℕ → Bool = λ k. t.test k (suc j) in
      let s : ℕ = least_from p 0 j in
      let g : LeastFrom p 0 s = least_from_holds p 0 j j (omega arith) (omega arith) (test_letter t j h) in
      record {
        start = s;
        ends = omega (arith, least_at_most g j (omega arith) (test_letter t j h));
        lyndon = (t.right s (suc j) h).0 g.passes;
        longest = λ k a w. g.least k (omega arith) a ((t.right k (suc j) h).1 w);
      }

  -- The table of these lengths is the Lyndon suffix table.
  pub least_table : IsSuffixTable O x (tabulate (λ j. suc j - least_from (λ k. t.test k (suc j)) 0 j) 0 (length x))
  least_table =
      let entry : ℕ → ℕ = λ j. suc j - least_from (λ k. t.test k (suc j)) 0 j in
      record { size = length-tabulate entry 0 (length x); entry = tabulate_each (LongestTo O x) entry (length x) least_longest }

-- The computed table is the Lyndon suffix table.
pub suffix_table_of_holds {ℓ κ} : {A : Type ℓ} {O : Letters {ℓ, κ} A} (D : Decided O) (x : List A) → IsSuffixTable O x (suffix_table_of D x)
suffix_table_of_holds D x = least_table (lyndon_test D x)
