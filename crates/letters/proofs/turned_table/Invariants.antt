-- `letters::turned_table` meets its contract: the entries before the index are turned.
-- Assumes nothing.
use Prim.Native.Nat.{◌-◌}
use lib.ListN.{get_or}
use Rattle.answer.specs.Content.{Holds}
use Rattle.letters.proofs.turned_table.Given as goal

abbrev pub invariant-loop-a : goal.invariant-loop-a
invariant-loop-a l = Holds (λ b. 255 - get_or l.table b 0) l.a-index l.table l.a-items
