-- `from_array::forest::write_own` meets its contract. The loop's invariant: the places passed hold their own positions.
-- Assumes nothing.
use Rattle.answer.specs.Content.{Holds}
use Rattle.from_array.proofs.forest.write_own.Given as goal

abbrev pub invariant-loop-k : goal.invariant-loop-k
invariant-loop-k l = Holds (λ j. j) l.k l.initial.first l.first
