-- The infinite order of words is a strict order; of non-empty words only equal ones are neither before the other, and the comparison that computes
-- gives each answer exactly where it holds.
-- Assumes nothing.
use Rattle.std.specs.Prelude.{◌≡◌, refl, ◌⊎◌, ◌↔◌, List, [], ◌∷◌, ℕ, zero, suc, ◌+◌, ◌%◌, ◌<◌, ◌≤◌, length, get_or}
use Rattle.std.proofs.Common.{sym, ap, subst, ◌∙◌, inl, inr, arith, mod-eq_of_lt, ext_get_or}
use Rattle.std.proofs.Math.Logic.{Lift}
use Rattle.std.proofs.Math.Option.{some, some-injective}
use Rattle.std.proofs.Math.Decide.{dec_lt}
use Rattle.words.specs.Letters.{Letters, Smaller, rising}
use Rattle.words.specs.Decided.{Comparison, below, same, above, Means, Decided, compare_numbers, compare_numbers_holds}
use Rattle.words.specs.InfiniteOrder.{endless, EndlessSame, EndlessLess, InfiniteLess}
use Rattle.words.specs.Compute.InfiniteOrder.{InfiniteMeans, copied, compare_copies, or_else, compare_infinite}
use Rattle.words.specs.Laws.Numbers.{below_suc}
use Rattle.words.specs.Laws.Letters.{smaller_asym, smaller_trans, compared_irrefutable}
use Rattle.words.specs.Laws.Endless.{endless_letter, copied_repeats, agree_forever}

-- Endless copies of two non-empty words, by letters.
module _ {ℓ} {A : Type ℓ} (z : A) (u v : List A) (p : 0 < length u) (q : 0 < length v) where
  -- Positions with the same letter, by letters.
  copied_alike : (k : ℕ) → copied z u k ≡ copied z v k → endless u k ≡ endless v k
  copied_alike k e = endless_letter z u p k ∙ ap some e ∙ sym (endless_letter z v q k)

  alike_copied : (k : ℕ) → endless u k ≡ endless v k → copied z u k ≡ copied z v k
  alike_copied k e =
      some-injective (copied z u k) (copied z v k) (sym (endless_letter z u p k) ∙ e ∙ endless_letter z v q k)

  -- Copies whose first |u| + |v| letters are the same are the same without end.
  pub endless_same : ((k : ℕ) → k < length u + length v → copied z u k ≡ copied z v k) → EndlessSame u v
  endless_same h k =
      copied_alike k
      (agree_forever (copied z u) (copied z v) (length u) (length v) p q (copied_repeats z u) (copied_repeats z v) h k)

-- One step of the comparison of copies: the letters at one position, or else what follows them.
pub compare_copies_step {ℓ κ} : {A : Type ℓ} {O : Letters {ℓ, κ} A} (D : Decided O) (z : A) (u v : List A) (left k : ℕ) →
    compare_copies D z u v (suc left) k ≡ or_else (D.compare (copied z u k) (copied z v k)) (compare_copies D z u v left (suc k))
compare_copies_step D z u v left k = go (D.compare (copied z u k) (copied z v k)) (compare_copies D z u v left (suc k))
  where
    go : (c r : Comparison) → elim c [ below ↦ below | same ↦ r | above ↦ above ] ≡ or_else c r
    go below r = refl
    go same r = refl
    go above r = refl

-- Words of one length with the same endless copies are equal.
pub endless_equal {ℓ} : {A : Type ℓ} (u v : List A) → length u ≡ length v → EndlessSame u v → u ≡ v
endless_equal [] [] e h = refl
endless_equal [] (b ∷ v) e h = absurd (omega (arith, e))
endless_equal {A = A} (a ∷ u) v e h = ext_get_or a (a ∷ u) v e at
  where
    at : (i : ℕ) → i < length (a ∷ u) → get_or (a ∷ u) i a ≡ get_or v i a
    at i l =
        let m : i % length (a ∷ u) ≡ i = mod-eq_of_lt l in
        let n : i % length v ≡ i = mod-eq_of_lt (omega (arith, e)) in
        ap (λ (k : ℕ). get_or (a ∷ u) k a) (sym m) ∙ alike_copied a (a ∷ u) v (omega arith) (omega (arith, e)) i (h i) ∙
        ap (λ (k : ℕ). get_or v k a) n

module _ {ℓ κ} {A : Type ℓ} (O : Letters {ℓ, κ} A) where
  -- Copies of non-empty words with the same letters before a position at which u has the smaller one.
  pub endless_less : (z : A) (u v : List A) → 0 < length u → 0 < length v → (d : ℕ) → ((k : ℕ) → k < d → copied z u k ≡ copied z v k) →
      Smaller O (copied z u d) (copied z v d) → EndlessLess O u v
  endless_less z u v p q d h s =
      record {
        offset = d;
        alike = λ k l. copied_alike z u v p q k (h k l);
        a = copied z u d;
        b = copied z v d;
        left = endless_letter z u p d;
        right = endless_letter z v q d;
        smaller = s;
      }

  -- Where one row of copies is smaller by a letter, the two differ.
  offset_differs : (u v : List A) (h : EndlessLess O u v) → ¬ (endless u h.offset ≡ endless v h.offset)
  offset_differs u v h e = h.smaller.0 (some-injective h.a h.b (sym h.left ∙ e ∙ h.right))

  -- No two rows of copies are smaller than each other: at the smaller of the two offsets they differ, and are the same if it is not the greater too.
  endless_asymmetric : (u v : List A) → EndlessLess O u v → ¬ EndlessLess O v u
  endless_asymmetric u v h k = go (dec_lt h.offset k.offset) (dec_lt k.offset h.offset)
    where
      go : Dec (h.offset < k.offset) → Dec (k.offset < h.offset) → ⊥
      go (yes l) m = offset_differs u v h (sym (k.alike h.offset l))
      go (no l) (yes m) = offset_differs v u k (sym (h.alike k.offset m))
      go (no l) (no m) =
          let e : k.offset ≡ h.offset = omega (arith, l, m) in
          let s : h.a ≡ k.b = some-injective h.a k.b (sym h.left ∙ ap (endless u) (sym e) ∙ k.right) in
          let t : h.b ≡ k.a = some-injective h.b k.a (sym h.right ∙ ap (endless v) (sym e) ∙ k.left) in
          smaller_asym O h.a h.b h.smaller
          (subst (λ (x : A). Smaller O x h.a) (sym t) (subst (λ (x : A). Smaller O k.a x) (sym s) k.smaller))

  -- u^∞ = v^∞ and v^∞ < w^∞ give u^∞ < w^∞.
  same_less : (u v w : List A) → EndlessSame u v → EndlessLess O v w → EndlessLess O u w
  same_less u v w e h =
      record {
        offset = h.offset;
        alike = λ k l. e k ∙ h.alike k l;
        a = h.a;
        b = h.b;
        left = e h.offset ∙ h.left;
        right = h.right;
        smaller = h.smaller;
      }

  -- u^∞ < v^∞ and v^∞ = w^∞ give u^∞ < w^∞.
  less_same : (u v w : List A) → EndlessLess O u v → EndlessSame v w → EndlessLess O u w
  less_same u v w h e =
      record {
        offset = h.offset;
        alike = λ k l. h.alike k l ∙ e k;
        a = h.a;
        b = h.b;
        left = h.left;
        right = sym (e h.offset) ∙ h.right;
        smaller = h.smaller;
      }

  -- A row of copies smaller than a second is smaller than all that the second is smaller than.
  endless_transitive : (u v w : List A) → EndlessLess O u v → EndlessLess O v w → EndlessLess O u w
  endless_transitive u v w h k = go (dec_lt h.offset k.offset) (dec_lt k.offset h.offset)
    where
      go : Dec (h.offset < k.offset) → Dec (k.offset < h.offset) → EndlessLess O u w
      go (yes l) m =
          record {
            offset = h.offset;
            alike = λ i n. h.alike i n ∙ k.alike i (omega arith);
            a = h.a;
            b = h.b;
            left = h.left;
            right = sym (k.alike h.offset l) ∙ h.right;
            smaller = h.smaller;
          }
      go (no l) (yes m) =
          record {
            offset = k.offset;
            alike = λ i n. h.alike i (omega arith) ∙ k.alike i n;
            a = k.a;
            b = k.b;
            left = h.alike k.offset m ∙ k.left;
            right = k.right;
            smaller = k.smaller;
          }
      go (no l) (no m) =
          let e : k.offset ≡ h.offset = omega (arith, l, m) in
          let s : h.b ≡ k.a = some-injective h.b k.a (sym h.right ∙ ap (endless v) (sym e) ∙ k.left) in
          record {
            offset = h.offset;
            alike = λ i n. h.alike i n ∙ k.alike i (omega (arith, e));
            a = h.a;
            b = k.b;
            left = h.left;
            right = ap (endless w) (sym e) ∙ k.right;
            smaller = smaller_trans O h.a h.b k.b h.smaller (subst (λ (x : A). Smaller O x k.b) (sym s) k.smaller);
          }

  -- No two words are before each other.
  pub infinite_asymmetric : (u v : List A) → InfiniteLess O u v → ¬ InfiniteLess O v u
  infinite_asymmetric u v (inl h) (inl k) = endless_asymmetric u v h k
  infinite_asymmetric u v (inl h) (inr k) = offset_differs u v h (sym (k.0 h.offset))
  infinite_asymmetric u v (inr h) (inl k) = offset_differs v u k (sym (h.0 k.offset))
  infinite_asymmetric u v (inr h) (inr k) = omega (arith, h.1, k.1)

  -- No word is before itself.
  pub infinite_irreflexive : (u : List A) → ¬ InfiniteLess O u u
  infinite_irreflexive u h = infinite_asymmetric u u h h

  -- A word before another is not equal to it.
  pub infinite_differs : (u v : List A) → InfiniteLess O u v → ¬ (u ≡ v)
  infinite_differs u v h e = infinite_irreflexive v (subst (λ (w : List A). InfiniteLess O w v) e h)

  -- A word before a second is before all that the second is before.
  pub infinite_transitive : (u v w : List A) → InfiniteLess O u v → InfiniteLess O v w → InfiniteLess O u w
  infinite_transitive u v w (inl h) (inl k) = inl (endless_transitive u v w h k)
  infinite_transitive u v w (inl h) (inr k) = inl (less_same u v w h k.0)
  infinite_transitive u v w (inr h) (inl k) = inl (same_less u v w h.0 k)
  infinite_transitive u v w (inr h) (inr k) = inr (λ i. h.0 i ∙ k.0 i, omega (arith, h.1, k.1))

  -- Only one answer is right.
  pub infinite_one_answer : (c d : Comparison) (u v : List A) → InfiniteMeans O c u v → InfiniteMeans O d u v → c ≡ d
  infinite_one_answer below below u v m n = refl
  infinite_one_answer below same u v m n = absurd (infinite_differs u v m n.lower)
  infinite_one_answer below above u v m n = absurd (infinite_asymmetric u v m n)
  infinite_one_answer same below u v m n = absurd (infinite_differs u v n m.lower)
  infinite_one_answer same same u v m n = refl
  infinite_one_answer same above u v m n = absurd (infinite_differs v u n (sym m.lower))
  infinite_one_answer above below u v m n = absurd (infinite_asymmetric u v n m)
  infinite_one_answer above same u v m n = absurd (infinite_differs v u m (sym n.lower))
  infinite_one_answer above above u v m n = refl

  -- One of three, from an answer and what it says.
  one_of_three : (c : Comparison) (u v : List A) → InfiniteMeans O c u v → InfiniteLess O u v ⊎ (u ≡ v) ⊎ InfiniteLess O v u
  one_of_three below u v m = inl m
  one_of_three same u v m = inr (inl m.lower)
  one_of_three above u v m = inr (inr m)

  -- Two non-empty words, the copies of which are compared up to n letters, at least |u| + |v|: what a comparison of the letters at one position
  -- says, whether it is decided or not.
  module _ (z : A) (u v : List A) (p : 0 < length u) (q : 0 < length v) (n : ℕ) (enough : length u + length v ≤ n) where
    -- The first d letters of the copies are the same.
    abbrev Alike : ℕ → Type ℓ
    Alike d = (k : ℕ) → k < d → copied z u k ≡ copied z v k

    -- What an answer says of the first n letters of the copies.
    abbrev CopiesMean : Comparison → Type (ℓ ⊔ κ)
    CopiesMean below = EndlessLess O u v
    CopiesMean same = Lift {ℓ, κ} (Alike n)
    CopiesMean above = EndlessLess O v u

    -- Behind d letters that are the same, letter d decides, or else what follows it.
    letter_decides : (d : ℕ) → Alike d → (c r : Comparison) → Means O c (copied z u d) (copied z v d) → (Alike (suc d) → CopiesMean r) →
        CopiesMean (or_else c r)
    letter_decides d h below r m rest = endless_less z u v p q d h m
    letter_decides d h same r m rest = rest (below_suc (λ k. copied z u k ≡ copied z v k) d h m.lower)
    letter_decides d h above r m rest = endless_less z v u q p d (λ k l. sym (h k l)) m

    -- Behind n letters that are the same, the lengths decide.
    lengths_decide : (c : Comparison) → CopiesMean c → InfiniteMeans O (or_else c (compare_numbers (length v) (length u))) u v
    lengths_decide below m = inl m
    lengths_decide above m = inl m
    lengths_decide same m = go (compare_numbers (length v) (length u)) (compare_numbers_holds (length v) (length u))
      where
        rows : EndlessSame u v
        rows = endless_same z u v p q (λ k l. m.lower k (omega (arith, enough, l)))

        go : (c : Comparison) → Means rising c (length v) (length u) → InfiniteMeans O c u v
        go below l = inr (rows, l.1)
        go same l = record { lower = endless_equal u v (sym l.lower) rows }
        go above l = inr (λ k. sym (rows k), l.1)

    -- Decided letters: the comparison of copies from position d on says what holds.
    compare_copies_holds : (D : Decided O) (left d : ℕ) → left + d ≡ n → Alike d → CopiesMean (compare_copies D z u v left d)
    compare_copies_holds D zero d e h = record { lower = subst Alike (omega (arith, e)) h }
    compare_copies_holds D (suc left) d e h =
        subst CopiesMean (sym (compare_copies_step D z u v left d))
        (letter_decides d h (D.compare (copied z u d) (copied z v d)) (compare_copies D z u v left (suc d)) (D.right (copied z u d) (copied z v d))
        (compare_copies_holds D left (suc d) (omega (arith, e))))

    -- So n letters and then the lengths say what holds of the words.
    letters_hold : (D : Decided O) → InfiniteMeans O (or_else (compare_copies D z u v n 0) (compare_numbers (length v) (length u))) u v
    letters_hold D = lengths_decide (compare_copies D z u v n 0) (compare_copies_holds D n 0 (omega arith) (λ k l. absurd (omega arith)))

    -- Letters of any kind: that there is such an answer cannot be refuted.
    copies_irrefutable : (left d : ℕ) → left + d ≡ n → ¬ ¬ ((c : Comparison) × (Alike d → CopiesMean c))
    copies_irrefutable zero d e never = never (same, λ h. record { lower = subst Alike (omega (arith, e)) h })
    copies_irrefutable (suc left) d e never =
        compared_irrefutable O (copied z u d) (copied z v d) (λ s. copies_irrefutable left (suc d) (omega (arith, e))
        (λ r. never (or_else s.0 r.0, λ h. letter_decides d h s.0 r.0 s.1 r.1)))

  -- The comparison that computes says what holds of two non-empty words.
  pub compare_infinite_holds : (D : Decided O) (z : A) (u v : List A) → 0 < length u → 0 < length v → InfiniteMeans O (compare_infinite D z u v) u v
  compare_infinite_holds D z u v p q = letters_hold z u v p q (length u + length v) (omega arith) D

  -- To compare more than |u| + |v| letters of two non-empty words changes no answer.
  pub compare_infinite_enough : (D : Decided O) (z : A) (u v : List A) → 0 < length u → 0 < length v → (n : ℕ) → length u + length v ≤ n →
      or_else (compare_copies D z u v n 0) (compare_numbers (length v) (length u)) ≡ compare_infinite D z u v
  compare_infinite_enough D z u v p q n enough =
      infinite_one_answer (or_else (compare_copies D z u v n 0) (compare_numbers (length v) (length u))) (compare_infinite D z u v) u v
      (letters_hold z u v p q n enough D) (compare_infinite_holds D z u v p q)

  -- Decided letters: of two non-empty words one is before the other, or they are equal.
  pub infinite_total : Decided O → (u v : List A) → 0 < length u → 0 < length v → InfiniteLess O u v ⊎ (u ≡ v) ⊎ InfiniteLess O v u
  infinite_total D [] v p q = absurd (omega arith)
  infinite_total D (a ∷ u) v p q = one_of_three (compare_infinite D a (a ∷ u) v) (a ∷ u) v (compare_infinite_holds D a (a ∷ u) v p q)

  -- Letters of any kind: that cannot be refuted.
  pub infinite_irrefutable : (u v : List A) → 0 < length u → 0 < length v → ¬ ¬ (InfiniteLess O u v ⊎ (u ≡ v) ⊎ InfiniteLess O v u)
  infinite_irrefutable [] v p q never = absurd (omega arith)
  infinite_irrefutable (a ∷ u) v p q never =
      let lengths : Comparison = compare_numbers (length v) (length (a ∷ u)) in
      let n : ℕ = length (a ∷ u) + length v in
      copies_irrefutable a (a ∷ u) v p q n (omega arith) n 0 (omega arith)
      (λ s.
      never
      (one_of_three (or_else s.0 lengths) (a ∷ u) v
      (lengths_decide a (a ∷ u) v p q n (omega arith) s.0 (s.1 (λ k l. absurd (omega arith))))))

  -- Of two different non-empty words one is before the other: not neither, and by `infinite_asymmetric` not both.
  pub infinite_not_neither : (u v : List A) → 0 < length u → 0 < length v → ¬ (u ≡ v) → ¬ ((¬ InfiniteLess O u v) × (¬ InfiniteLess O v u))
  infinite_not_neither u v p q d n = infinite_irrefutable u v p q go
    where
      go : ¬ (InfiniteLess O u v ⊎ (u ≡ v) ⊎ InfiniteLess O v u)
      go (inl h) = n.0 h
      go (inr (inl e)) = d e
      go (inr (inr h)) = n.1 h

  -- Each answer is given exactly where it holds.
  module _ (D : Decided O) (z : A) (u v : List A) (p : 0 < length u) (q : 0 < length v) where
    pub compares_as : (c : Comparison) → (compare_infinite D z u v ≡ c) ↔ InfiniteMeans O c u v
    compares_as c =
        let m = compare_infinite_holds D z u v p q in
        (λ e. subst (λ (d : Comparison). InfiniteMeans O d u v) e m, λ n. infinite_one_answer (compare_infinite D z u v) c u v m n)

    -- Below: u is before v.
    pub compares_below : (compare_infinite D z u v ≡ below) ↔ InfiniteLess O u v
    compares_below = compares_as below

    -- Same: the words are equal.
    pub compares_same : (compare_infinite D z u v ≡ same) ↔ (u ≡ v)
    compares_same = (λ e. ((compares_as same).0 e).lower, λ e. (compares_as same).1 (record { lower = e }))

    -- Above: v is before u.
    pub compares_above : (compare_infinite D z u v ≡ above) ↔ InfiniteLess O v u
    compares_above = compares_as above
