-- Arrays of which a text can be written, the first fault of any other, and the text.
-- Assumes nothing.
use Rattle.std.specs.Prelude.{◌≡◌, Bool, true, false, List, ℕ, zero, suc, ◌+◌, ◌-◌, ◌<◌, ◌≤◌, length, get_or, ltb}
use Rattle.words.specs.Tabulate.{tabulate}

-- Entry i is at least 1 and at most n − i.
pub record InRange (a : List ℕ) (i : ℕ) : Type 0 where
  pub positive : 1 ≤ get_or a i 0
  pub fits : i + get_or a i 0 ≤ length a

-- The span at j crosses the end of an earlier span: that of i holds j, and j's ends after it.
pub record Crosses (a : List ℕ) (j : ℕ) : Type 0 where
  pub earlier : ℕ
  pub before : earlier < j
  pub holds : j < earlier + get_or a earlier 0
  pub past : earlier + get_or a earlier 0 < j + get_or a j 0

-- a is valid (document 01, "The calls"; document 003, section 2: Observation 1 and the paragraph before Figure 1, which asks
-- i ≤ L*[i] ≤ n, with lengths for ends; Lemma 2 there, taken alone, admits an end before its own position).
pub record Valid (a : List ℕ) : Type 0 where
  pub in_range : (i : ℕ) → i < length a → InRange a i
  pub nested : (j : ℕ) → j < length a → ¬ Crosses a j

-- Document 01's reasons to refuse an array, refusals 6, 7 and 8.
pub data Fault : Type 0 where
  zero_entry long_entry crossing : Fault

-- Entry i is there, and all entries before it are in range.
pub record EarlierInRange (a : List ℕ) (i : ℕ) : Type 0 where
  pub inside : i < length a
  pub before : (k : ℕ) → k < i → InRange a k

-- The first fault of a stands at i (document 01, "Where each check stands", rows 6, 7 and 8).
abbrev pub FirstFault : List ℕ → Fault → ℕ → Type 0
FirstFault a zero_entry i = EarlierInRange a i × (get_or a i 0 ≡ 0)
FirstFault a long_entry i = EarlierInRange a i × (1 ≤ get_or a i 0) × (length a < i + get_or a i 0)
FirstFault a crossing j =
    ((i : ℕ) → i < length a → InRange a i) × (j < length a) × Crosses a j × ((k : ℕ) → k < j → ¬ Crosses a k)

-- 1 where the test passes, else 0.
abbrev pub one : Bool → ℕ
one true = 1
one false = 0

-- The number of positions below k whose span holds i.
abbrev pub holding : List ℕ → ℕ → ℕ → ℕ
holding a i zero = 0
holding a i (suc k) = holding a i k + one (ltb i (k + get_or a k 0))

-- The letter written at i (document 01, "The calls"): the number of earlier positions whose span holds i, plus n − i − entry i.
-- `Laws/SimpleAssign` shows that it is the letter that document 003's Figure 1 gives to i, less 1, since letters count from 1 there.
abbrev pub letter_for : List ℕ → ℕ → ℕ
letter_for a i = holding a i i + (length a - (i + get_or a i 0))

-- The text written for a valid array (document 01, "The calls").
abbrev pub text_for : List ℕ → List ℕ
text_for a = tabulate (letter_for a) 0 (length a)
