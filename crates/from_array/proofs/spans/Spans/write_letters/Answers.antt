-- `from_array::spans::Spans::write_letters` meets its contract: in a turn a position hands on its depth and one more, and then holds its letter.
-- Assumes nothing.
use Rattle.std.proofs.Common.{refl, ◌∙◌, arith}
use Rattle.from_array.proofs.Filling.{text_starts, text_goes_on, filling_ends}
use Rattle.from_array.proofs.spans.Spans.write_letters.Goals as goal

pub loop-i-init : goal.loop-i-init
loop-i-init c = text_starts _ _ (c.fill.ensures.len ∙ c.requires.places) (λ j h. c.fill.ensures.clones j 0 (omega arith) refl)

pub loop-i-preserved : goal.loop-i-preserved
loop-i-preserved c = search (arith, text_goes_on)

pub returns : goal.returns
returns c = record { content = search (arith, filling_ends) }
