-- `fasta_record::lines::lines_from` meets its contract. The loop's invariant: the lines from where it stands are those that are asked.
-- Assumes nothing.
use Rattle.std.proofs.Common.{◌≡◌, false, ◌+◌, drop}
use Rattle.fasta_record.specs.Lines.{lines_from}
use Rattle.fasta_record.proofs.lines.lines_from.Given as goal

abbrev pub invariant-loop-index : goal.invariant-loop-index
invariant-loop-index l = lines_from (l.from + l.index) l.inside l.count (drop l.index l.rest) ≡ lines_from l.from false 0 l.rest
