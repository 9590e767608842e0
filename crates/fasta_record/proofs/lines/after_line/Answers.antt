-- `fasta_record::lines::after_line` meets its contract where no LF is left.
-- Assumes nothing.
use Rattle.fasta_record.proofs.Reading.{line_unfound}
use Rattle.fasta_record.proofs.lines.after_line.Goals as goal

pub returns-in-None : goal.returns-in-None
returns-in-None c = record {
  result = line_unfound _ _ _ c.in-Some.ensures.lookup.0.2 c.line_end_in.ensures.found c.in-None.is c.in-Some.ensures.lookup.0.0;
}
