-- How far a word is known to agree with the factor after it: the cases of `settled_at`.
-- Assumes nothing.
use mathlib.Core.Path.{◌≡◌}
use Rattle.std.specs.Prelude.{Some, None}
use mathlib.Core.List.{List}
use Prim.Native.Nat.{ℕ, ◌+◌, ◌<◌, ◌≤◌}
use lib.ListN.{get_or}
use borrow.Author.Tests.{lt-ltb, le-ltb, eq-eqb, ne_eqb}
use Rattle.array.specs.Core.Place.{settled_at}

module _ (buf : List ℕ) (j w l s : ℕ) where
  -- The word is no shorter than the factor.
  pub settled_none : l ≤ w → settled_at buf j w l s ≡ None
  settled_none h = simp (le-ltb w l h)

  -- What is remembered of the factor is shorter than the word.
  pub settled_word : w < l → s < w → settled_at buf j w l s ≡ Some w
  settled_word h q = simp (lt-ltb w l h, lt-ltb s w q)

  -- The factor is the word and one part more, which agrees with what is remembered.
  pub settled_leap : w < l → w ≤ s → w + get_or buf (j + w) 0 ≡ l → settled_at buf j w l s ≡ Some (w + s)
  settled_leap h q sum = simp (lt-ltb w l h, le-ltb s w q, eq-eqb _ _ sum)

  -- It has further parts.
  pub settled_open : w < l → w ≤ s → ¬ (w + get_or buf (j + w) 0 ≡ l) → settled_at buf j w l s ≡ None
  settled_open h q differ = simp (lt-ltb w l h, le-ltb s w q, ne_eqb _ _ differ)
