-- `fasta::letters::write_letters` meets its contract. The loop's invariant: the letters of the lines from here on are pending.
-- Assumes nothing.
use Rattle.fasta.proofs.Reading.{Storing}
use Rattle.fasta.proofs.letters.write_letters.Given as goal

abbrev pub invariant-loop-byte : goal.invariant-loop-byte
invariant-loop-byte l = Storing l.lines l.initial.letters l.letters l.byte-index l.count
