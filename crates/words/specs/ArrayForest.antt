-- The right Lyndon forest read off an array alone (document 01: "Right forest: an array alone").
-- Assumes nothing.
use Rattle.std.specs.Prelude.{◌≡◌, refl, true, false, List, [], ◌∷◌, ℕ, zero, suc, ◌+◌, length, get_or, ltb, eqb}
use Rattle.words.specs.Tabulate.{tabulate}

-- Where the span at i ends.
abbrev pub end_of : List ℕ → ℕ → ℕ
end_of a i = i + get_or a i 0

-- The greatest position below k whose span holds j; j itself where there is none.
abbrev pub innermost : List ℕ → ℕ → ℕ → ℕ
innermost a j zero = j
innermost a j (suc k) = elim (ltb j (end_of a k)) [ true ↦ k | false ↦ innermost a j k ]

-- FIRST at j: the greatest position before j whose span holds j. A position that no earlier span holds starts a factor and has itself.
abbrev pub first_for : List ℕ → ℕ → ℕ
first_for a j = innermost a j j

-- PAST at j: the end of j's span; a position that starts a factor has itself.
abbrev pub past_for : List ℕ → ℕ → ℕ
past_for a j = elim (eqb (first_for a j) j) [ true ↦ j | false ↦ end_of a j ]

-- FIRST of the right forest that goes with an array.
abbrev pub forest_first : List ℕ → List ℕ
forest_first a = tabulate (first_for a) 0 (length a)

-- PAST of the right forest that goes with an array.
abbrev pub forest_past : List ℕ → List ℕ
forest_past a = tabulate (past_for a) 0 (length a)

-- The array of `aabb`, whose right forest is K8 of document 01.
computed : (forest_first (4 ∷ 3 ∷ 1 ∷ 1 ∷ []) ≡ 0 ∷ 0 ∷ 1 ∷ 1 ∷ []) × (forest_past (4 ∷ 3 ∷ 1 ∷ 1 ∷ []) ≡ 0 ∷ 4 ∷ 3 ∷ 4 ∷ [])
computed = (refl, refl)
