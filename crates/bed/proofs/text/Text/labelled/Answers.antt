-- `bed::text::Text::labelled` meets its contract: the label, and the number behind it.
-- Assumes nothing.
use Rattle.bed.specs.Text.{wrote_then}
use Rattle.bed.proofs.text.Text.labelled.Goals as goal

pub returns : goal.returns
returns c = record { wrote = wrote_then c.bytes.ensures.wrote c.decimal.ensures.wrote }
