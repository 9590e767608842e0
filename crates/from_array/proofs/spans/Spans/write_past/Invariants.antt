-- `from_array::spans::Spans::write_past` meets its contract. The loop's invariant: the places passed hold PAST.
-- Assumes nothing.
use Rattle.words.specs.ArrayForest.{past_for}
use Rattle.answer.specs.Content.{Holds}
use Rattle.from_array.proofs.spans.Spans.write_past.Given as goal

abbrev pub invariant-loop-j : goal.invariant-loop-j
invariant-loop-j l = Holds (past_for l.self.array.now) l.j l.initial.past l.past
