-- `agreement::common_prefix` meets its contract: the bytes below k agree, and k is a multiple of eight.
-- Assumes nothing.
use Rattle.std.proofs.Common.{arith, rules}
use Rattle.agreement.proofs.PackedParts.{eights}
use Rattle.agreement.proofs.common_prefix.Goals.{else-loop-k-test, then-loop-k-test+then-x-y+else-differ}
use Rattle.agreement.proofs.common_prefix.Goals as goal

pub returns-then-differ : goal.returns-then-differ
returns-then-differ c = search (rules, eights)

pub loop-k-preserved : goal.loop-k-preserved
loop-k-preserved c = record { alike = search (rules, eights); within = omega arith; eights = omega arith }

pub common_prefix_behind-requires : goal.common_prefix_behind-requires
common_prefix_behind-requires c = record {
  equal = elim c.loop-k-test.branch [
    | else-loop-k-test w ↦ rw w.k-is c.loop-k.invariant.alike
    | then-loop-k-test+then-x-y+else-differ w ↦ rw w.k-is (search (rules, eights))
  ];
}
