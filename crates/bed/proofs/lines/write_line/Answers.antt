-- `bed::lines::write_line` meets its contract: the parts of the line, one behind the other.
-- Assumes nothing.
use Prim.Native.Nat.{suc}
use Rattle.std.proofs.Common.{arith}
use Rattle.bed.specs.Bed.{number_field}
use Rattle.bed.specs.Text.{Wrote, wrote_then, wrote_as}
use Rattle.bed.proofs.lines.write_line.Goals as goal

pub returns : goal.returns
returns c =
    let end : Wrote c.labelled.new.self c.labelled-2.new.self (number_field (suc c.args.last)) = wrote_as c.labelled-2.ensures.wrote (grind arith) in
    record {
      wrote = wrote_then c.bytes.ensures.wrote
          (wrote_then c.labelled.ensures.wrote (wrote_then end (wrote_then c.labelled-3.ensures.wrote c.byte.ensures.wrote)));
    }
