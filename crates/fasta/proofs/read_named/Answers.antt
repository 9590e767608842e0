-- `fasta::read_named` meets its contract: what holds of an input whose record is taken.
-- Assumes nothing.
use Rattle.std.proofs.Common.{rules}
use Rattle.fasta.proofs.Laws.Accepted.{record_input}
use Rattle.fasta.proofs.read_named.Goals as goal

pub returns-clause-accepted : goal.returns-clause-accepted
returns-clause-accepted c = rw c.uncompared-accepted.ensures.accepted (record_input c.args.input.now c.in_ok-record.record (search rules))
