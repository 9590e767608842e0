-- What a worked example says, as a statement about the definitions and, of arrays, about the answers of the calls.
-- Assumes nothing.
use Rattle.std.specs.Prelude.{◌≡◌, List, [], ◌∷◌, ℕ, ◌≤◌, length, take}
use Rattle.words.specs.Letters.{rising, order_of}
use Rattle.words.specs.LyndonArray.{IsLyndonArray}
use Rattle.words.specs.Factorization.{IsFactorization}
use Rattle.words.specs.SuffixTable.{IsSuffixTable}
use Rattle.words.specs.RightForest.{IsRightForest}
use Rattle.words.specs.LeftForest.{IsLeftForest}
use Rattle.words.specs.ValidArray.{Valid, Fault, FirstFault, text_for}
use Rattle.letters.specs.Default.{default_row}
use Rattle.answer.specs.declared.Answer.{Answer}
use Rattle.answer.specs.Answers.{accepted_with, number, value, comparisons}
use Rattle.from_array.specs.Answers.{reconstruct_answer, right_forest_answer}
use Rattle.from_array.specs.Theorems.{text_after, right_first_after, right_past_after}

-- Letters are numbers, as all texts of the calls have them.
pub data Example : Type 0 where
  array : (order : ℕ) (text entries : List ℕ) → Example
  factors : (text starts : List ℕ) → Example
  suffix_table : (text table : List ℕ) → Example
  right_forest : (text first past : List ℕ) → Example
  left_forest : (text first past : List ℕ) → Example
  text : (entries text : List ℕ) → Example
  refused : (entries : List ℕ) (number position : ℕ) → Example

-- An answer has that number and value, and no comparisons.
pub record Says (answer : Answer) (r p : ℕ) : Type 0 where
  pub numbered : number answer ≡ r
  pub valued : value answer ≡ p
  pub uncompared : comparisons answer ≡ 0

-- An array is refused with a number at a position: its first fault stands there, and with buffers that are long enough both calls that
-- take an array answer with that number and position and leave their buffers as they were.
pub record ArrayRefused (a : List ℕ) (r p : ℕ) : Type 0 where
  pub fault : Fault
  pub first : FirstFault a fault p
  pub reconstructed :
      (text : List ℕ) → length a ≤ length text → Says (reconstruct_answer a (length text)) r p × (text_after a text ≡ text)
  pub forested :
      (first past : List ℕ) → length a ≤ length first → length a ≤ length past
      → Says (right_forest_answer a (length first) (length past)) r p × (right_first_after a first past ≡ first) × (right_past_after a first past ≡ past)

-- A text is written for an array: the array is valid, the text is the one that document 01 writes, and it has that array; with a buffer
-- that is long enough `reconstruct` accepts the array, and leaves the text in its first places.
pub record Reconstructed (a x : List ℕ) : Type 0 where
  pub valid : Valid a
  pub is : text_for a ≡ x
  pub has : IsLyndonArray rising x a
  pub accepted : (text : List ℕ) → length a ≤ length text → reconstruct_answer a (length text) ≡ accepted_with (length a)
  pub left : (text : List ℕ) → length a ≤ length text → take (length a) (text_after a text) ≡ x

-- A statement holds of a text and of its row of ranks in the default order: so in order 0, which was document 01's default, and in that of
-- document 02's E12.
abbrev pub ByNumberAndByDefault : (List ℕ → Type 0) → List ℕ → Type 0
ByNumberAndByDefault P x = P x × P (default_row x)

abbrev pub ExampleHolds : Example → Type 0
ExampleHolds (array o x a) = IsLyndonArray (order_of o) x a
ExampleHolds (factors x s) = ByNumberAndByDefault (λ y. IsFactorization rising y s) x
ExampleHolds (suffix_table x t) = ByNumberAndByDefault (λ y. IsSuffixTable rising y t) x
ExampleHolds (right_forest x f p) = IsRightForest rising x f p
ExampleHolds (left_forest x f p) = ByNumberAndByDefault (λ y. IsLeftForest rising y f p) x
ExampleHolds (text a x) = Reconstructed a x
ExampleHolds (refused a r p) = ArrayRefused a r p

-- Every example of a table holds.
abbrev pub AllHold : List Example → Type 0
AllHold [] = Unit {0}
AllHold (e ∷ es) = ExampleHolds e × AllHold es
