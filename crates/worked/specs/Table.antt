-- K1 to K12 (document 01, "Worked by hand"), in one table under one joint statement. 97 is a, 98 is b.
-- Assumes nothing.
use Rattle.std.specs.Prelude.{refl, List, [], ◌∷◌, ℕ, drop, T, leb}
use Rattle.std.proofs.Common.{lit≤}
use Rattle.words.specs.ValidArray.{crossing}
use Rattle.letters.specs.BuiltIn.{folded_numbers}
use Rattle.answer.specs.Limits.{max_length, Sized}
use Rattle.worked.specs.Example.{Example, array, factors, suffix_table, right_forest, left_forest, text, refused, AllHold}
use Rattle.worked.specs.Computed.{AllComputed, all_computed_hold}

-- The table.
abbrev pub table : List Example
table =
    -- K1 `a`
    array 0 (97 ∷ []) (1 ∷ []) ∷
    -- K2 `ba` rising
    array 0 (98 ∷ 97 ∷ []) (1 ∷ 1 ∷ []) ∷
    -- K3 `ba` falling
    array 1 (98 ∷ 97 ∷ []) (2 ∷ 1 ∷ []) ∷
    -- K4 `abab`
    array 0 (97 ∷ 98 ∷ 97 ∷ 98 ∷ []) (2 ∷ 1 ∷ 2 ∷ 1 ∷ []) ∷
    -- K5 `bab` falling
    array 1 (98 ∷ 97 ∷ 98 ∷ []) (2 ∷ 1 ∷ 1 ∷ []) ∷
    -- K6 `abbababaababbaba` (document 002)
    array 0 (97 ∷ 98 ∷ 98 ∷ 97 ∷ 98 ∷ 97 ∷ 98 ∷ 97 ∷ 97 ∷ 98 ∷ 97 ∷ 98 ∷ 98 ∷ 97 ∷ 98 ∷ 97 ∷ [])
    (3 ∷ 1 ∷ 1 ∷ 2 ∷ 1 ∷ 2 ∷ 1 ∷ 8 ∷ 5 ∷ 1 ∷ 3 ∷ 1 ∷ 1 ∷ 2 ∷ 1 ∷ 1 ∷ []) ∷
    -- K6, the starts of its factors
    factors (97 ∷ 98 ∷ 98 ∷ 97 ∷ 98 ∷ 97 ∷ 98 ∷ 97 ∷ 97 ∷ 98 ∷ 97 ∷ 98 ∷ 98 ∷ 97 ∷ 98 ∷ 97 ∷ []) (0 ∷ 3 ∷ 5 ∷ 7 ∷ 15 ∷ []) ∷
    -- K7 `babbababbaabb` (document 000)
    suffix_table (98 ∷ 97 ∷ 98 ∷ 98 ∷ 97 ∷ 98 ∷ 97 ∷ 98 ∷ 98 ∷ 97 ∷ 97 ∷ 98 ∷ 98 ∷ []) (1 ∷ 1 ∷ 2 ∷ 3 ∷ 1 ∷ 2 ∷ 1 ∷ 2 ∷ 5 ∷ 1 ∷ 1 ∷ 3 ∷ 4 ∷ []) ∷
    -- K8 `aabb`, right
    right_forest (97 ∷ 97 ∷ 98 ∷ 98 ∷ []) (0 ∷ 0 ∷ 1 ∷ 1 ∷ []) (0 ∷ 4 ∷ 3 ∷ 4 ∷ []) ∷
    -- K9 `aabb`, left
    left_forest (97 ∷ 97 ∷ 98 ∷ 98 ∷ []) (0 ∷ 0 ∷ 1 ∷ 0 ∷ []) (0 ∷ 3 ∷ 3 ∷ 4 ∷ []) ∷
    -- K10 (document 003's example, text from 0)
    text (2 ∷ 1 ∷ 5 ∷ 2 ∷ 1 ∷ 2 ∷ 1 ∷ 3 ∷ 2 ∷ 1 ∷ []) (8 ∷ 9 ∷ 3 ∷ 6 ∷ 7 ∷ 4 ∷ 5 ∷ 0 ∷ 1 ∷ 2 ∷ []) ∷
    -- K11
    refused (2 ∷ 2 ∷ 1 ∷ []) 8 1 ∷
    -- K12
    text (3 ∷ 1 ∷ 1 ∷ []) (0 ∷ 2 ∷ 1 ∷ []) ∷
    []

-- What is tested of a length holds of it.
in_limits : (n : ℕ) → T (leb 1 n) → T (leb n max_length) → Sized n
in_limits n low high = record { some = lit≤ low; short = lit≤ high }

-- Every example of the table holds.
pub table_holds : AllHold table
unfolding folded_numbers
table_holds =
    all_computed_hold table
    (refl, (refl, (refl, (refl, (refl, (refl, ((refl, refl), ((refl, refl), ((refl, refl), (((refl, refl), (refl, refl)), from_k10))))))))))
  where
    -- K10, K11 and K12 come out.
    from_k10 : AllComputed (drop 10 table)
    from_k10 = ((in_limits 10 tt tt, refl, refl, refl), ((in_limits 3 tt tt, crossing, refl, refl), ((in_limits 3 tt tt, refl, refl, refl), tt)))
