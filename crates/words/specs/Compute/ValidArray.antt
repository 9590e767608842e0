-- The check of an array, in a form that computes: the array's first fault, or that there is none.
-- Assumes nothing.
use Rattle.std.specs.Prelude.{◌≡◌, refl, Bool, true, false, ◌&&◌, ◌||◌, List, [], ◌∷◌, ℕ, zero, suc, ◌+◌, ◌<◌, ◌≤◌, length, get_or, ltb, eqb}
use Rattle.std.proofs.Common.{arith, ltb-true, ltb-false, eqb-true}
use Rattle.std.proofs.lemmas.Bool.{eqb-false}
use Rattle.words.specs.ValidArray.{InRange, Crosses, Valid, Fault, zero_entry, long_entry, crossing, EarlierInRange, FirstFault, text_for}
use Rattle.words.specs.Laws.Numbers.{below_suc}

-- What the check says of an array: that it is valid, or its first fault and the position of that.
pub data Verdict : Type 0 where
  fits : Verdict
  fault : Fault → ℕ → Verdict

-- What a verdict means.
abbrev pub HasVerdict : List ℕ → Verdict → Type 0
HasVerdict a fits = Valid a
HasVerdict a (fault f i) = FirstFault a f i

-- The fault f at i where the test passes, else v.
abbrev pub fault_if : Bool → Fault → ℕ → Verdict → Verdict
fault_if true f i v = fault f i
fault_if false f i v = v

-- Whether the span at j crosses the end of the span at i.
abbrev pub crosses_at : List ℕ → ℕ → ℕ → Bool
crosses_at a j i = ltb j (i + get_or a i 0) && ltb (i + get_or a i 0) (j + get_or a j 0)

-- Whether the span at j crosses the end of a span that starts below k.
abbrev pub crosses_below : List ℕ → ℕ → ℕ → Bool
crosses_below a j zero = false
crosses_below a j (suc k) = crosses_at a j k || crosses_below a j k

-- The verdict on the spans at j, j + 1, .., d of them.
abbrev pub check_spans : List ℕ → ℕ → ℕ → Verdict
check_spans a j zero = fits
check_spans a j (suc d) =
    let after = check_spans a (suc j) d in
    fault_if (crosses_below a j j) crossing j after

-- The verdict on the entries at i, i + 1, .., d of them, and then on all spans.
abbrev pub check_entries : List ℕ → ℕ → ℕ → Verdict
check_entries a i zero = check_spans a 0 (length a)
check_entries a i (suc d) =
    let after = check_entries a (suc i) d in
    let not_zero = fault_if (ltb (length a) (i + get_or a i 0)) long_entry i after in
    fault_if (eqb (get_or a i 0) 0) zero_entry i not_zero

-- The verdict on an array: entries from the left, then spans from the left.
abbrev pub check_array : List ℕ → Verdict
check_array a = check_entries a 0 (length a)

-- Arrays of document 01 that are not in the table of K1 to K12 ("Worked by hand", "Traps on the way").
checked : (check_array (1 ∷ 1 ∷ []) ≡ fits)
    × (text_for (1 ∷ 1 ∷ []) ≡ 1 ∷ 0 ∷ [])
    × (check_array (1 ∷ 0 ∷ []) ≡ fault zero_entry 1)
    × (check_array (1 ∷ 2 ∷ []) ≡ fault long_entry 1)
    × (check_array (1 ∷ 4294967295 ∷ []) ≡ fault long_entry 1)
checked = (refl, refl, refl, refl, refl)

-- What the test on the spans below k tells: a crossing, or that no crossed end is among theirs.
abbrev Tells : List ℕ → ℕ → ℕ → Bool → Type 0
Tells a j k true = Crosses a j
Tells a j k false = (x : Crosses a j) → k ≤ x.earlier

-- Where the span at k has no crossed end, the test on the spans below k tells the same of those up to it.
tells_next : (a : List ℕ) (j k : ℕ) (b : Bool) → ¬ ((j < k + get_or a k 0) × (k + get_or a k 0 < j + get_or a j 0)) → Tells a j k b → Tells a j (suc k) b
tells_next a j k true n t = t
tells_next a j k false n t =
    λ x.
    let other : ¬ (x.earlier ≡ k) = λ e. n (rw e at x.holds, rw e at x.past) in
    omega (arith, t x)

-- The test is right.
crosses_below_tells : (a : List ℕ) (j k : ℕ) → k ≤ j → Tells a j k (crosses_below a j k)
crosses_below_tells a j zero h = λ x. omega arith
crosses_below_tells a j (suc k) h =
    go (ltb j (k + get_or a k 0)) (ltb (k + get_or a k 0) (j + get_or a j 0)) refl refl (crosses_below_tells a j k (omega arith))
  where
    go : (b c : Bool) → ltb j (k + get_or a k 0) ≡ b → ltb (k + get_or a k 0) (j + get_or a j 0) ≡ c
        → Tells a j k (crosses_below a j k) → Tells a j (suc k) ((b && c) || crosses_below a j k)
    go true true p q t = record { earlier = k; before = h; holds = omega (arith, ltb-true); past = omega (arith, ltb-true) }
    go true false p q t = tells_next a j k (crosses_below a j k) (λ n. omega (arith, ltb-false)) t
    go false c p q t = tells_next a j k (crosses_below a j k) (λ n. omega (arith, ltb-false)) t

module _ (a : List ℕ) (in_range : (i : ℕ) → i < length a → InRange a i) where
  -- The verdict on the spans from j on is the array's, where no earlier span crosses.
  check_spans_right : (j d : ℕ) → j + d ≡ length a → ((k : ℕ) → k < j → ¬ Crosses a k) → HasVerdict a (check_spans a j d)
  check_spans_right j zero e none = record { in_range = in_range; nested = λ k h. none k (omega arith) }
  check_spans_right j (suc d) e none =
      go (crosses_below a j j) (crosses_below_tells a j j (omega arith)) (λ n. check_spans_right (suc j) d (omega arith) n)
    where
      go : (b : Bool) → Tells a j j b → (((k : ℕ) → k < suc j → ¬ Crosses a k) → HasVerdict a (check_spans a (suc j) d))
          → HasVerdict a (fault_if b crossing j (check_spans a (suc j) d))
      go true t after = (in_range, omega arith, t, none)
      go false t after = after (below_suc (λ k. ¬ Crosses a k) j none (λ x. omega (arith, t x)))

-- The verdict on the entries from i on is the array's, where all earlier entries are in range.
check_entries_right : (a : List ℕ) (i d : ℕ) → i + d ≡ length a → ((k : ℕ) → k < i → InRange a k) → HasVerdict a (check_entries a i d)
check_entries_right a i zero e good =
    check_spans_right a (λ k h. good k (omega arith)) 0 (length a) (omega arith) (λ k h. omega arith)
check_entries_right a i (suc d) e good =
    go (eqb (get_or a i 0) 0) (ltb (length a) (i + get_or a i 0)) refl refl (λ g. check_entries_right a (suc i) d (omega arith) g)
  where
    first : EarlierInRange a i
    first = record { inside = omega arith; before = good }

    go : (z l : Bool) → eqb (get_or a i 0) 0 ≡ z → ltb (length a) (i + get_or a i 0) ≡ l
        → (((k : ℕ) → k < suc i → InRange a k) → HasVerdict a (check_entries a (suc i) d))
        → HasVerdict a (fault_if z zero_entry i (fault_if l long_entry i (check_entries a (suc i) d)))
    go true l p q after = (first, omega (arith, eqb-true))
    go false true p q after = (first, omega (arith, eqb-false), omega (arith, ltb-true))
    go false false p q after =
        after
        (below_suc (InRange a) i good
        (record { positive = omega (arith, eqb-false); fits = omega (arith, ltb-false) }))

-- The verdict that is computed is the array's.
pub check_array_holds : (a : List ℕ) → HasVerdict a (check_array a)
check_array_holds a = check_entries_right a 0 (length a) (omega arith) (λ k h. omega arith)
