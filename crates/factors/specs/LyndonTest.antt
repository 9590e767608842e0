-- The test whether a text is a Lyndon word (document 02, E5: "a Lyndon word of bytes", in rising order).
-- Assumes nothing.
use Rattle.std.specs.Prelude.{◌≡◌, refl, Bool, true, false, cond, List, [], ◌∷◌, ℕ, ◌≤◌, ltb, length}
use Rattle.std.proofs.Common.{le-ltb}
use Rattle.words.specs.Decided.{decided_rising}
use Rattle.words.specs.Compute.Lyndon.{lyndonb}
use Rattle.answer.specs.Limits.{max_length}

-- x is a Lyndon word in rising order; false where x is longer than the calls take, which is not tested further.
abbrev pub lyndon_within : List ℕ → Bool
lyndon_within x = cond (ltb max_length (length x)) false (lyndonb decided_rising x)

-- Up to that length it is the test of the definition (`lyndonb_holds` of `words`).
pub within_limit : (x : List ℕ) → length x ≤ max_length → lyndon_within x ≡ lyndonb decided_rising x
within_limit x l = simp (le-ltb max_length (length x) l)

-- The word of document 02, E5, `abacabade`, passes the test; in the default order `aB` would, here it does not.
pub lower_case_word : lyndon_within (97 ∷ 98 ∷ 97 ∷ 99 ∷ 97 ∷ 98 ∷ 97 ∷ 100 ∷ 101 ∷ []) ≡ true
lower_case_word = refl

pub capital_is_smaller : lyndon_within (97 ∷ 66 ∷ []) ≡ false
capital_is_smaller = refl
