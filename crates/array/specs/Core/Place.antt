-- What each small function on the buffer asks for and leaves in it.
-- Assumes nothing.
use Rattle.std.specs.Prelude.{cond, Option, Some, None, List, ℕ, ◌+◌, ◌<◌, ◌≤◌, ◌-◌, ltb, eqb, length, get_or, set}
use Rattle.answer.specs.Limits.{max_length}
use Rattle.array.specs.declared.factor.Factor.{Factor}

-- The number remembered at the last place of the factor of length l at j; 0 for a single letter.
abbrev pub remembered_at : List ℕ → ℕ → ℕ → ℕ
remembered_at buf j l = cond (ltb 1 l) (get_or buf (j + l - 1) 0) 0

-- The factor at j as it stands in the buffer.
abbrev pub factor_at : List ℕ → ℕ → Factor
factor_at buf j = record { start = j; length = get_or buf j 0; known = remembered_at buf j (get_or buf j 0) }

-- The word of length w before j is a prefix of the factor of length l at j: letters on which the word and what follows it agree with the factor,
-- as s tells, which is remembered of the factor; none where s does not tell, or where the word is no shorter than the factor.
abbrev pub settled_at : List ℕ → ℕ → ℕ → ℕ → ℕ → Option ℕ
settled_at buf j w l s =
    cond (ltb w l) (cond (ltb s w) (Some w) (cond (eqb (w + get_or buf (j + w) 0) l) (Some (w + s)) None)) None

-- The buffer after the last place of the factor of length l at j has its entry 1 back.
abbrev pub restored_at : List ℕ → ℕ → ℕ → List ℕ
restored_at buf j l = cond (ltb 1 l) (set buf (j + l - 1) 1) buf

-- What storing asks for: the word from i to e lies inside the buffer, and s fits where it is stored.
pub record StoreReady (buf : List ℕ) (i e s : ℕ) : Type 0 where
  pub after : i < e
  pub inside : e ≤ length buf
  pub small : e ≤ max_length
  pub stored : 1 < e - i → s ≤ max_length

-- The buffer after the length of the word from i to e is stored, and s at its last place.
abbrev pub stored_at : List ℕ → ℕ → ℕ → ℕ → List ℕ
stored_at buf i e s = cond (ltb 1 (e - i)) (set (set buf i (e - i)) (e - 1) s) (set buf i (e - i))
