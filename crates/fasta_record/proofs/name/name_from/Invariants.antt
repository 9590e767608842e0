-- `fasta_record::name::name_from` meets its contract. The loop's invariant: the name from where it stands is the name that is asked.
-- Assumes nothing.
use Rattle.std.proofs.Common.{◌≡◌, ◌+◌, drop}
use Rattle.fasta_record.specs.Name.{name_from}
use Rattle.fasta_record.proofs.name.name_from.Given as goal

abbrev pub invariant-loop-count : goal.invariant-loop-count
invariant-loop-count l = name_from (l.from + l.count) l.count (drop l.count l.rest) ≡ name_from l.from 0 l.rest
