-- `bed::write_refusal` meets its contract: the parts of the line, one behind the other. The two numbers have at most ten digits each.
-- Assumes nothing.
use mathlib.Core.Path.{sym, ap}
use native.Mathlib.Omega.{arith}
use lib.ListN.{length}
use Rattle.std.proofs.Common.{rules}
use Rattle.bed.specs.Text.{wrote_then, wrote_size, wrote_all}
use Rattle.bed.specs.Laws.Decimal.{decimal_length}
use Rattle.bed.specs.Laws.Refusal.{refusal_fits}
use Rattle.bed.proofs.write_refusal.Goals as goal

pub labelled-requires : goal.labelled-requires
labelled-requires c = omega (arith, ap length c.new-text.ensures.bytes, decimal_length 9 c.args.number (omega arith))

pub labelled-requires-2 : goal.labelled-requires-2
labelled-requires-2 c =
    let number = c.labelled.ensures.wrote in
    omega (
      arith,
      ap length c.new-text.ensures.bytes,
      number.written.past,
      wrote_size number,
      decimal_length 9 c.args.number (omega arith),
      decimal_length 9 c.args.position (omega arith),
    )

pub byte-requires : goal.byte-requires
byte-requires c =
    let number = c.labelled.ensures.wrote in
    let position = c.labelled-2.ensures.wrote in
    omega (
      arith,
      ap length c.new-text.ensures.bytes,
      number.written.past,
      wrote_size number,
      position.written.past,
      wrote_size position,
      decimal_length 9 c.args.number (omega arith),
      decimal_length 9 c.args.position (omega arith),
    )

pub returns : goal.returns
returns c =
    let line = wrote_then c.labelled.ensures.wrote (wrote_then c.labelled-2.ensures.wrote c.byte.ensures.wrote) in
    let written = wrote_all line c.new-text.ensures.bytes c.new-text.ensures.none
    (sym (refusal_fits c.args.number c.args.position (length c.args.out.now) c.if-out-lt-MAX_REFUSAL.false))
    in
    record { content = search rules }
