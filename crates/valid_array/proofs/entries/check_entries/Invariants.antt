-- `valid_array::entries::check_entries` meets its contract. The loop's invariant: the entries passed are in range.
-- Assumes nothing.
use Prim.Native.Nat.{ℕ, ◌<◌}
use Rattle.words.specs.ValidArray.{InRange}
use Rattle.valid_array.proofs.entries.check_entries.Given as goal

abbrev pub invariant-loop-i : goal.invariant-loop-i
invariant-loop-i l = (k : ℕ) → k < l.i → InRange l.array k
