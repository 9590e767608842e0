-- `from_array::spans::Spans::write_first` meets its contract. The loop's invariant: the positions whose innermost span starts before `i`
-- have it, and the factor starts have themselves.
-- Assumes nothing.
use Rattle.words.specs.ArrayForest.{first_for}
use Rattle.from_array.proofs.Filling.{Filling}
use Rattle.from_array.proofs.spans.Spans.write_first.Given as goal

abbrev pub invariant-loop-i : goal.invariant-loop-i
invariant-loop-i l =
    let a = l.self.array.now in
    Filling (first_for a) (first_for a) a l.i l.first
