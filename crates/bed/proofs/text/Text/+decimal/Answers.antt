-- `bed::text::Text::decimal` meets its contract: the digits of a tenth of the number, where it has more than one digit, and its last digit.
-- Assumes nothing.
use mathlib.Core.Path.{◌≡◌, sym, ap, ◌∙◌}
use Prim.Native.Nat.{◌%◌}
use native.Mathlib.Omega.{arith}
use mathlib.Core.List.{[], ◌∷◌}
use lib.ListN.{length}
use Rattle.bed.specs.Decimal.{digit}
use Rattle.bed.specs.Text.{wrote_then, wrote_as, wrote_room}
use Rattle.bed.specs.Laws.Decimal.{decimal_one, decimal_more, decimal_length_more}
use Rattle.bed.proofs.text.Text.+decimal.Goals.{then-n-ge10, else-n-ge10}
use Rattle.bed.proofs.text.Text.+decimal.Goals as goal

pub decimal-requires : goal.decimal-requires
decimal-requires t c =
    let more = decimal_length_more c.args.n c.if-n-ge10.true in
    (omega arith, omega (arith, more, c.requires))

pub byte-requires : goal.byte-requires
byte-requires t c = elim c.if-n-ge10.branch [
  | then-n-ge10 w ↦ rw w.self-is (wrote_room 1 w.decimal.ensures.wrote (omega (arith, decimal_length_more c.args.n w.if-n-ge10.true, c.requires)))
  | else-n-ge10 w ↦ rw w.self-is (omega (arith, ap length (decimal_one c.args.n w.if-n-ge10.false), c.requires))
]

pub returns : goal.returns
returns t c = record {
  wrote = elim c.if-n-ge10.branch [
    | then-n-ge10 w ↦
        wrote_as (wrote_then w.decimal.ensures.wrote (rw w.self-is at c.byte.ensures.wrote)) (sym (decimal_more c.args.n w.if-n-ge10.true))
    | else-n-ge10 w ↦
        let last : c.args.n % 10 ≡ c.args.n = omega arith in
        wrote_as (rw w.self-is at c.byte.ensures.wrote) (ap (λ d. digit d ∷ []) last ∙ sym (decimal_one c.args.n w.if-n-ge10.false))
  ];
}
