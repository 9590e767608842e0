-- The text that document 01 writes for a valid array: its letters are all different, and in rising order it has that array.
-- Assumes nothing.
use Rattle.std.specs.Prelude.{◌≡◌, Bool, true, false, List, ℕ, zero, suc, ◌+◌, ◌-◌, ◌<◌, ◌≤◌, length, get_or, ltb}
use Rattle.std.proofs.Common.{sym, ap, subst, ◌∙◌, arith, zero-add, lt-ltb, le-ltb}
use Rattle.std.proofs.Math.Decide.{dec_lt}
use Rattle.words.specs.Letters.{rising}
use Rattle.words.specs.LyndonArray.{IsLyndonArray}
use Rattle.words.specs.ValidArray.{Valid, one, holding, letter_for, text_for}
use Rattle.words.specs.Permutation.{EachOnce}
use Rattle.words.specs.ArrayForest.{end_of}
use Rattle.words.specs.Laws.Tabulate.{length-tabulate, get_or-tabulate}
use Rattle.words.specs.Laws.SpanLyndon.{letters}
use Rattle.words.specs.Laws.SuffixOrder.{SuffixLess, parts, NextSmaller}
use Rattle.words.specs.Laws.NextSmaller.{empty_suffix_less}
use Rattle.words.specs.Laws.ArrayNext.{next_array}
use Rattle.words.specs.Laws.ValidSpans.{Innermost, Unheld, end_after, end_inside, ends_nest}
use Rattle.words.specs.Laws.Pigeonhole.{takes_all}

one_at_most : (b : Bool) → one b ≤ 1
one_at_most true = omega arith
one_at_most false = omega arith

module _ (a : List ℕ) (j : ℕ) where
  -- One position more: it counts where its span holds j.
  holding_held : (k : ℕ) → j < end_of a k → holding a j (suc k) ≡ suc (holding a j k)
  holding_held k h = rw (lt-ltb j (end_of a k) h, holding) (omega arith)

  holding_unheld : (k : ℕ) → end_of a k ≤ j → holding a j (suc k) ≡ holding a j k
  holding_unheld k h = rw (le-ltb j (end_of a k) h, holding) (omega arith)

  -- d positions more count at most d, and nothing where none of their spans holds j.
  holding_bounds : (k d : ℕ) → (holding a j k ≤ holding a j (k + d)) × (holding a j (k + d) ≤ holding a j k + d)
  holding_bounds k zero = let e : k + zero ≡ k = omega arith in rw e (omega arith)
  holding_bounds k (suc d) =
      let e : k + suc d ≡ suc (k + d) = omega arith in
      let r = holding_bounds k d in
      rw e (omega (arith, one_at_most (ltb j (end_of a (k + d))), r.0, r.1))

  holding_none : (k d : ℕ) → ((m : ℕ) → k ≤ m → m < k + d → end_of a m ≤ j) → holding a j (k + d) ≡ holding a j k
  holding_none k zero h = let e : k + zero ≡ k = omega arith in rw e
  holding_none k (suc d) h =
      let e : k + suc d ≡ suc (k + d) = omega arith in
      rw e (holding_unheld (k + d) (h (k + d) (omega arith) (omega arith)) ∙ holding_none k d (λ m p q. h m p (omega arith)))

-- Where every span below k that holds i holds j, at least as many hold j.
holding_at_most : (a : List ℕ) (i j k : ℕ) → ((m : ℕ) → m < k → i < end_of a m → j < end_of a m) → holding a i k ≤ holding a j k
holding_at_most a i j zero h = omega arith
holding_at_most a i j (suc k) h = go (dec_lt i (end_of a k)) (holding_at_most a i j k (λ m l. h m (omega arith)))
  where
    go : Dec (i < end_of a k) → holding a i k ≤ holding a j k → holding a i (suc k) ≤ holding a j (suc k)
    go (yes p) r = omega (arith, holding_held a i k p, holding_held a j k (h k (omega arith) p))
    go (no p) r = omega (arith, holding_unheld a i k (omega (arith, p)), (holding_bounds a j k 1).0, ap (holding a j) (at k))
      where
        at : (k : ℕ) → k + 1 ≡ suc k
        at k = omega arith

-- At most i earlier spans hold i.
pub depth_at_most : (a : List ℕ) (i : ℕ) → holding a i i ≤ i
depth_at_most a i = let e : 0 + i ≡ i = zero-add i in omega (arith, rw e at (holding_bounds a i 0 i).1)

-- A position that no earlier span holds is held by none.
pub depth_of_root : (a : List ℕ) (j : ℕ) → Unheld a j j → holding a j j ≡ 0
depth_of_root a j u =
    let e : 0 + j ≡ j = zero-add j in
    rw e at (holding_none a j 0 j (λ m p q. u m (omega arith)))

module _ (a : List ℕ) (v : Valid a) where
  -- Where k stands in the span of i, every earlier span that holds i holds k.
  held_inside : (i k : ℕ) → k < length a → i < k → k < end_of a i → (m : ℕ) → m < i → i < end_of a m → k < end_of a m
  held_inside i k h p q m l r = omega (arith, ends_nest a v m i (omega arith) l r)

  -- A position inside the span of i is held by more spans.
  depth_inside : (i k : ℕ) → k < length a → i < k → k < end_of a i → holding a i i < holding a k k
  depth_inside i k h p q =
      let e : suc i + (k - suc i) ≡ k = omega arith in
      omega (
        arith,
        holding_at_most a i k i (held_inside i k h p q),
        holding_held a k i q,
        rw e at (holding_bounds a k (suc i) (k - suc i)).0,
      )

  -- A position whose innermost span is that of i is held by one span more than i.
  pub depth_of_child : (i k : ℕ) → k < length a → Innermost a k k i → holding a k k ≡ suc (holding a i i)
  depth_of_child i k h c =
      let p : i < k = c.below in
      let e : suc i + (k - suc i) ≡ k = omega arith in
      let none : holding a k (suc i + (k - suc i)) ≡ holding a k (suc i) =
      holding_none a k (suc i) (k - suc i) (λ m r s. c.last m r (omega arith)) in
      omega (
        arith,
        holding_at_most a i k i (held_inside i k h p c.holds),
        holding_at_most a k i i (λ m l r. omega (arith, r, p)),
        holding_held a k i c.holds,
        rw e at none,
      )

  -- A position past the span of i is held by no more spans than i and one for each position between.
  depth_past : (i j : ℕ) → i < length a → end_of a i ≤ j → j < length a → holding a j j ≤ holding a i i + (j - end_of a i)
  depth_past i j h p q =
      let l : i < end_of a i = end_after a v i h in
      let d : ℕ = end_of a i - i in
      let e : i + (end_of a i - i) ≡ end_of a i = omega arith in
      let f : end_of a i + (j - end_of a i) ≡ j = omega arith in
      let none : holding a j (i + (end_of a i - i)) ≡ holding a j i =
      holding_none a j i (end_of a i - i) (λ m r s. between m r (rw e at s)) in
      omega (
        arith,
        holding_at_most a j i i (λ m r s. omega (arith, s, l, p)),
        rw e at none,
        rw f at (holding_bounds a j (end_of a i) (j - end_of a i)).1,
      )
    where
      between : (m : ℕ) → i ≤ m → m < end_of a i → end_of a m ≤ j
      between m r s = go (dec_lt i m)
        where
          go : Dec (i < m) → end_of a m ≤ j
          go (yes t) = omega (arith, ends_nest a v i m (omega (arith, p, q)) t s)
          go (no t) =
              let z : i ≡ m = omega (arith, t) in
              subst (λ (w : ℕ). end_of a w ≤ j) z p

  -- Inside the span of i every letter is greater than letter i, and past it every letter is smaller.
  letter_inside : (i k : ℕ) → i < length a → i < k → k < end_of a i → letter_for a i < letter_for a k
  letter_inside i k h p q =
      let l : k < length a = omega (arith, end_inside a v i h) in
      omega (arith, depth_inside i k l p q, ends_nest a v i k l p q, end_inside a v i h, end_inside a v k l)

  letter_past : (i j : ℕ) → i < length a → end_of a i ≤ j → j < length a → letter_for a j < letter_for a i
  letter_past i j h p q =
      omega (arith, depth_past i j h p q, end_after a v j q, end_inside a v i h, end_inside a v j q)

  pub letter_below : (i : ℕ) → i < length a → letter_for a i < length a
  letter_below i h = omega (arith, depth_at_most a i, end_after a v i h, end_inside a v i h)

  letters_differ : (i j : ℕ) → i < j → j < length a → ¬ (letter_for a i ≡ letter_for a j)
  letters_differ i j l h e = go (dec_lt j (end_of a i))
    where
      go : Dec (j < end_of a i) → ⊥
      go (yes p) = omega (arith, letter_inside i j (omega arith) l p)
      go (no p) = omega (arith, letter_past i j (omega arith) (omega (arith, p)) h)

pub length-text_for : (a : List ℕ) → length (text_for a) ≡ length a
length-text_for a = length-tabulate (letter_for a) 0 (length a)

pub get_or-text_for : (a : List ℕ) (i : ℕ) → i < length a → get_or (text_for a) i 0 ≡ letter_for a i
get_or-text_for a i h = rw (get_or-tabulate (letter_for a) 0 (length a) i h, zero-add)

module _ (a : List ℕ) (v : Valid a) where
  abbrev x : ℕ → ℕ
  x = letters 0 (text_for a)

  -- Two letters of the text compare as the letters that were written.
  smaller_letter : (i j : ℕ) → i < length a → j < length a → letter_for a i < letter_for a j → SuffixLess rising x (length a) i j
  smaller_letter i j p q l =
      let e : i + 0 ≡ i = omega arith in
      let f : j + 0 ≡ j = omega arith in
      let h : x i < x j = omega (arith, get_or-text_for a i p, get_or-text_for a j q) in
      parts 0 (omega arith) (omega arith) (λ k m. absurd (omega arith)) (rw (e, f) (λ z. omega (arith, z, h), h))

  -- The span of every position ends at the next smaller suffix of the text.
  span_leads : (i : ℕ) → i < length a → NextSmaller rising x (length a) i (end_of a i)
  span_leads i h =
      record {
        after = end_after a v i h;
        inside = end_inside a v i h;
        drops = go (dec_lt (end_of a i) (length a));
        between =
            λ k p q.
            smaller_letter i k h (omega (arith, end_inside a v i h)) (letter_inside a v i k h p q);
      }
    where
      go : Dec (end_of a i < length a) → SuffixLess rising x (length a) (end_of a i) i
      go (yes l) = smaller_letter (end_of a i) i l h (letter_past a v i (end_of a i) h (omega arith) l)
      go (no l) =
          let e : length a ≡ end_of a i = omega (arith, l, end_inside a v i h) in
          subst (λ (w : ℕ). SuffixLess rising x (length a) w i) e (empty_suffix_less rising x (length a) i h)

  -- The text has the array.
  pub text_has_array : IsLyndonArray rising (text_for a) a
  text_has_array =
      next_array rising 0 (text_for a) a (sym (length-text_for a))
      (λ i h. rw (length-text_for a) (span_leads i (rw (length-text_for a) at h)))

-- Rows of n different numbers below n.
each_once : (n : ℕ) (x : List ℕ) → length x ≡ n → ((i : ℕ) → i < n → get_or x i 0 < n)
    → ((i j : ℕ) → i < j → j < n → ¬ (get_or x i 0 ≡ get_or x j 0)) → EachOnce n x
each_once n x s b d =
    record {
      size = s;
      below = b;
      different = d;
      used = takes_all (λ i. get_or x i 0) n (record { below = b; different = λ i j l m e. one_place i j l m e (dec_lt i j) (dec_lt j i) });
    }
  where
    one_place : (i j : ℕ) → i < n → j < n → get_or x i 0 ≡ get_or x j 0 → Dec (i < j) → Dec (j < i) → i ≡ j
    one_place i j l m e (yes p) q = absurd (d i j p m e)
    one_place i j l m e (no p) (yes q) = absurd (d j i q l (sym e))
    one_place i j l m e (no p) (no q) = omega (arith, p, q)

-- The letters of the text are 0 to n − 1, each used once.
pub text_each_once : (a : List ℕ) → Valid a → EachOnce (length a) (text_for a)
text_each_once a v =
    each_once (length a) (text_for a) (length-text_for a)
    (λ i h. rw (get_or-text_for a i h) (letter_below a v i h))
    (λ i j l h e. letters_differ a v i j l h (sym (get_or-text_for a i (omega arith)) ∙ e ∙ get_or-text_for a j h))
