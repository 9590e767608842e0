-- What the steps of the check tell of the verdict on an array.
-- Assumes nothing.
use mathlib.Core.Path.{◌≡◌, ap}
use mathlib.Core.List.{List}
use Prim.Native.Nat.{ℕ, ◌+◌, ◌<◌, ◌≤◌}
use native.Mathlib.Omega.{arith}
use lib.ListN.{length, get_or}
use Rattle.words.specs.ValidArray.{Valid, zero_entry, long_entry, crossing, InRange}
use Rattle.words.specs.Compute.ValidArray.{Verdict, fits, fault, HasVerdict}
use Rattle.words.specs.Laws.ValidArray.{check_array_computes}
use Rattle.answer.specs.declared.Reason.TheVariants.{ZeroEntry, LongEntry, CrossingSpans}
use Rattle.answer.specs.Answers.{accepted_with, refused_for}
use Rattle.valid_array.specs.Answers.{verdict_answer, array_checked}
use Rattle.valid_array.specs.Checked.{EntriesInRange, LeastCrossing}

module _ (a : List ℕ) where
  -- The answer to the verdict that the array has.
  answers : (v : Verdict) → HasVerdict a v → array_checked a ≡ verdict_answer (length a) v
  answers v h = ap (verdict_answer (length a)) (check_array_computes a v h)

  module _ (r : ℕ) (inside : r < length a) (before : (k : ℕ) → k < r → InRange a k) where
    pub zero_verdict : get_or a r 0 ≡ 0 → array_checked a ≡ refused_for ZeroEntry r
    zero_verdict e = answers (fault zero_entry r) (record { inside = inside; before = before }, e)

    pub long_verdict : ¬ (get_or a r 0 ≡ 0) → length a < r + get_or a r 0 → array_checked a ≡ refused_for LongEntry r
    long_verdict n past = answers (fault long_entry r) (record { inside = inside; before = before }, omega (arith, n), past)

  pub crossing_verdict : (r : ℕ) → EntriesInRange a → LeastCrossing a r → r < length a → array_checked a ≡ refused_for CrossingSpans r
  crossing_verdict r e c h = answers (fault crossing r) (e.at, h, c.found h, c.least)

  pub fits_valid : (r : ℕ) → EntriesInRange a → LeastCrossing a r → length a ≤ r → Valid a
  fits_valid r e c h = record { in_range = e.at; nested = λ j l. c.least j (omega arith) }

  pub fits_verdict : (r : ℕ) → EntriesInRange a → LeastCrossing a r → length a ≤ r → array_checked a ≡ accepted_with (length a)
  fits_verdict r e c h = answers fits (fits_valid r e c h)
