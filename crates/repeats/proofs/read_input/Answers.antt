-- `repeats::read_input` meets its contract: each turn takes some bytes more from the reader.
-- Assumes nothing.
use Rattle.std.proofs.Common.{◌-◌, length, arith}
use Rattle.std.proofs.KnownBytes.{Consumes-trans}
use borrow.Rule.Slice.PartMut.{same_len_mid}
use Rattle.repeats.proofs.Bytes.{read_more}
use Rattle.repeats.proofs.read_input.Goals as goal

pub loop-done-preserved : goal.loop-done-preserved
loop-done-preserved g c =
    let loop = c.loop-done in
    let read = c.read.new.buf in
    let given = c.in_ok-count.ensures in
    let size = same_len_mid loop.done (length loop.input - loop.done) loop.input read c.read.auto.buf in
    record {
      inside = omega arith;
      bytes =
          rw (read_more loop.done c.in_ok-count.count loop.input read _ loop.invariant.inside given.bound.0)
          (Consumes-trans _ _ _ _ _ loop.invariant.bytes given.bytes.0);
    }
