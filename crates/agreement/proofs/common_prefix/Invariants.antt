-- `agreement::common_prefix` meets its contract: the bytes below k agree, and k is a multiple of eight.
-- Assumes nothing.
use mathlib.Core.Path.{◌≡◌}
use mathlib.Core.List.{List}
use Prim.Native.Nat.{ℕ, ◌-◌, ◌%◌, ◌≤◌}
use Rattle.agreement.specs.CommonPrefixLaws.{AlikeBelow}
use Rattle.agreement.proofs.common_prefix.Given as goal

-- What the loop keeps.
pub record EightsAlike (u v : List ℕ) (whole k : ℕ) : Type 0 where
  pub alike : AlikeBelow u v k
  pub within : k ≤ whole
  pub eights : k % 8 ≡ 0

abbrev pub invariant-loop-k : goal.invariant-loop-k
invariant-loop-k l = EightsAlike l.u l.v l.whole l.k

abbrev pub decreases-loop-k : goal.decreases-loop-k
decreases-loop-k l = l.whole - l.k
