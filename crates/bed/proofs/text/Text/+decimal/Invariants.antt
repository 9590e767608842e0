-- `bed::text::Text::decimal` ends: the number falls.
-- Assumes nothing.
use Rattle.bed.proofs.text.Text.+decimal.Given as goal

abbrev pub decreases-decimal : goal.decreases-decimal
decreases-decimal l = l.n
