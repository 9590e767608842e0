-- The answers of the code, and those of the order.
-- Assumes nothing.
use mathlib.Core.Path.{◌≡◌, refl}
use Rattle.std.specs.declared.cmp.Ordering.TheVariants.{Less, Equal, Greater}
use Rattle.words.specs.Decided as words
use Rattle.letters.specs.Compared.{comparison_of}

-- Each answer of the code is one answer of the order.
pub is_below : (c : words.Comparison) → comparison_of c ≡ Less → c ≡ words.below
is_below words.below e = refl
is_below words.same e = cc
is_below words.above e = cc

pub is_same : (c : words.Comparison) → comparison_of c ≡ Equal → c ≡ words.same
is_same words.below e = cc
is_same words.same e = refl
is_same words.above e = cc

pub is_above : (c : words.Comparison) → comparison_of c ≡ Greater → c ≡ words.above
is_above words.below e = cc
is_above words.same e = cc
is_above words.above e = refl
