-- An array has one verdict.
-- Assumes nothing.
use Rattle.std.specs.Prelude.{◌≡◌, refl, List, ℕ}
use Rattle.std.proofs.Common.{ap, arith}
use Rattle.words.specs.ValidArray.{InRange, Crosses, Valid, Fault, zero_entry, long_entry, crossing, EarlierInRange, FirstFault}
use Rattle.words.specs.Laws.Numbers.{least_unique}
use Rattle.words.specs.Compute.ValidArray.{Verdict, fits, fault, HasVerdict, check_array, check_array_holds}

module _ (a : List ℕ) where
  -- An entry that is 0, or too long, is not in range.
  zero_not_in_range : {i : ℕ} → FirstFault a zero_entry i → ¬ InRange a i
  zero_not_in_range b r = omega arith

  long_not_in_range : {i : ℕ} → FirstFault a long_entry i → ¬ InRange a i
  long_not_in_range b r = omega arith

  -- There is one first entry that is 0 or too long.
  bad_entry_unique : {i j : ℕ} → EarlierInRange a i → ¬ InRange a i → EarlierInRange a j → ¬ InRange a j → i ≡ j
  bad_entry_unique b n c m =
      least_unique (λ k. ¬ InRange a k) n (λ k h w. w (b.before k h)) m (λ k h w. w (c.before k h))

  -- The first bad entry is not both 0 and too long.
  not_zero_and_long : {i j : ℕ} → FirstFault a zero_entry i → ¬ FirstFault a long_entry j
  not_zero_and_long b c =
      let e = bad_entry_unique b.0 (zero_not_in_range b) c.0 (long_not_in_range c) in
      let z = rw e at b.1 in
      omega arith

  -- A valid array has no fault.
  pub valid_no_fault : (f : Fault) (i : ℕ) → Valid a → ¬ FirstFault a f i
  valid_no_fault zero_entry i v b = zero_not_in_range b (v.in_range i b.0.inside)
  valid_no_fault long_entry i v b = long_not_in_range b (v.in_range i b.0.inside)
  valid_no_fault crossing i v b = v.nested i b.1 b.2

  -- The first fault and its position are unique.
  pub fault_unique : (f g : Fault) (i j : ℕ) → FirstFault a f i → FirstFault a g j → fault f i ≡ fault g j
  fault_unique zero_entry zero_entry i j b c =
      ap (fault zero_entry) (bad_entry_unique b.0 (zero_not_in_range b) c.0 (zero_not_in_range c))
  fault_unique zero_entry long_entry i j b c = absurd (not_zero_and_long b c)
  fault_unique zero_entry crossing i j b c = absurd (zero_not_in_range b (c.0 i b.0.inside))
  fault_unique long_entry zero_entry i j b c = absurd (not_zero_and_long c b)
  fault_unique long_entry long_entry i j b c =
      ap (fault long_entry) (bad_entry_unique b.0 (long_not_in_range b) c.0 (long_not_in_range c))
  fault_unique long_entry crossing i j b c = absurd (long_not_in_range b (c.0 i b.0.inside))
  fault_unique crossing zero_entry i j b c = absurd (zero_not_in_range c (b.0 j c.0.inside))
  fault_unique crossing long_entry i j b c = absurd (long_not_in_range c (b.0 j c.0.inside))
  fault_unique crossing crossing i j b c =
      ap (fault crossing) (least_unique (Crosses a) b.2 b.3 c.2 c.3)

  -- An array has one verdict.
  pub verdict_unique : (v w : Verdict) → HasVerdict a v → HasVerdict a w → v ≡ w
  verdict_unique fits fits p q = refl
  verdict_unique fits (fault g j) p q = absurd (valid_no_fault g j p q)
  verdict_unique (fault f i) fits p q = absurd (valid_no_fault f i q p)
  verdict_unique (fault f i) (fault g j) p q = fault_unique f g i j p q

  -- The verdict that an array has is the one that is computed.
  pub check_array_computes : (v : Verdict) → HasVerdict a v → check_array a ≡ v
  check_array_computes v p = verdict_unique (check_array a) v (check_array_holds a) p
