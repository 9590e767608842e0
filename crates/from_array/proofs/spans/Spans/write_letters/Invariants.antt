-- `from_array::spans::Spans::write_letters` meets its contract. The loop's invariant: the positions before `i` have their letters, the others
-- the number of spans that hold them where the innermost of these had its turn.
-- Assumes nothing.
use Rattle.words.specs.ValidArray.{letter_for}
use Rattle.from_array.proofs.Filling.{Filling, depth}
use Rattle.from_array.proofs.spans.Spans.write_letters.Given as goal

abbrev pub invariant-loop-i : goal.invariant-loop-i
invariant-loop-i l =
    let a = l.self.array.now in
    Filling (depth a) (letter_for a) a l.i l.text
