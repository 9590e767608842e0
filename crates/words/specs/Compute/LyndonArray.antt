-- The Lyndon array computed, for letters whose comparisons are decided.
-- Assumes nothing.
use Rattle.std.specs.Prelude.{Bool, List, ℕ, suc, ◌+◌, ◌-◌, ◌<◌, length, T}
use Rattle.std.proofs.Common.{arith, add-one}
use Rattle.words.specs.Letters.{Letters}
use Rattle.words.specs.Decided.{Decided}
use Rattle.words.specs.Word.{span}
use Rattle.words.specs.LyndonArray.{LongestFrom, IsLyndonArray}
use Rattle.words.specs.Tabulate.{tabulate}
use Rattle.words.specs.Laws.Tabulate.{length-tabulate, tabulate_each}
use Rattle.words.specs.Laws.Lyndon.{LyndonTest, test_letter}
use Rattle.words.specs.Compute.Lyndon.{lyndonb, lyndon_test}
use Rattle.words.specs.Compute.Search.{greatest_below, GreatestBelow, greatest_below_holds}

-- The length of the longest Lyndon word of x that starts at i.
abbrev pub longest_from {ℓ κ} : {A : Type ℓ} {O : Letters {ℓ, κ} A} → Decided O → List A → ℕ → ℕ
longest_from D x i = greatest_below (λ l. lyndonb D (span i (i + l) x)) (suc (length x - i))

-- The Lyndon array of x.
abbrev pub array_of {ℓ κ} : {A : Type ℓ} {O : Letters {ℓ, κ} A} → Decided O → List A → List ℕ
array_of D x = tabulate (longest_from D x) 0 (length x)

module _ {ℓ κ} {A : Type ℓ} {O : Letters {ℓ, κ} A} {x : List A} (t : LyndonTest O x) where
  -- The greatest length that passes a test for Lyndon words is that of the longest Lyndon word from i.
  pub greatest_longest : (i : ℕ) → i < length x → LongestFrom O x i (greatest_below (λ l. t.test i (i + l)) (suc (length x - i)))
  greatest_longest i h =
      let p : ℕ → Bool = λ l. t.test i (i + l) in
      let m : ℕ = suc (length x - i) in
      let one : T (p 1) = rw add-one (test_letter t i h) in
      let g : GreatestBelow p m (greatest_below p m) = greatest_below_holds p m 1 (omega arith) one in
      record {
        fits = omega arith;
        lyndon = (t.right i (i + greatest_below p m) (omega arith)).0 g.passes;
        longest = λ l a f w. g.greatest l a (omega arith) ((t.right i (i + l) f).1 w);
      }

  -- The array of these lengths is the Lyndon array.
  pub greatest_array : IsLyndonArray O x (tabulate (λ i. greatest_below (λ l. t.test i (i + l)) (suc (length x - i))) 0 (length x))
  greatest_array =
      let entry : ℕ → ℕ = λ i. greatest_below (λ l. t.test i (i + l)) (suc (length x - i)) in
      record { size = length-tabulate entry 0 (length x); entry = tabulate_each (LongestFrom O x) entry (length x) greatest_longest }

-- The computed array is the Lyndon array.
pub array_of_holds {ℓ κ} : {A : Type ℓ} {O : Letters {ℓ, κ} A} (D : Decided O) (x : List A) → IsLyndonArray O x (array_of D x)
array_of_holds D x = greatest_array (lyndon_test D x)
