-- What holds at each turn of the loop that compares endless copies, and the position that goes back to the start behind the last.
-- Assumes nothing.
use mathlib.Core.Path.{◌≡◌, refl, sym, ap, subst, ◌∙◌}
use mathlib.Core.List.{List}
use Prim.Native.Nat.{ℕ, zero, suc, ◌+◌, ◌%◌, ◌<◌, ◌≤◌}
use native.Mathlib.Omega.{arith}
use native.Mathlib.Nat.{mod-lt, mod-eq_of_lt, mod-add-mod}
use lib.ListN.{length, get_or}
use Rattle.words.specs.Decided as words
use Rattle.words.specs.Decided.{decided_rising, by_tests, compare_numbers, compare_numbers_holds, Means}
use Rattle.words.specs.Letters.{rising}
use Rattle.words.specs.Compute.InfiniteOrder.{copied, compare_copies, or_else, compare_infinite}
use Rattle.words.specs.Laws.InfiniteOrder.{compare_copies_step, compare_infinite_enough}
use Rattle.std.specs.declared.cmp.Ordering.{Ordering}
use Rattle.std.specs.declared.cmp.Ordering.TheVariants.{Less, Equal, Greater}
use Rattle.std.specs.Ordering.{nat_cmp}
use Rattle.std.specs.Prelude.{Bool, true, false, cond, ltb, eqb}
use Rattle.letters.specs.Compared.{comparison_of}

-- std's comparison of two numbers, as `words` has it.
compared : (a b : ℕ) → nat_cmp a b ≡ comparison_of (compare_numbers a b)
compared a b = go (ltb a b) (eqb a b)
  where
    go : (l e : Bool) → cond l Less (cond e Equal Greater) ≡ comparison_of (by_tests l e)
    go true e = refl
    go false true = refl
    go false false = refl

-- The position behind i, where i is k modulo n, is k + 1 modulo n.
behind : (r i k n : ℕ) → i ≡ k % n → r ≡ (i + 1) % n → r ≡ (k + 1) % n
behind r i k n e f = f ∙ ap (λ (h : ℕ). (h + 1) % n) e ∙ mod-add-mod k n 1

-- Letters that differ decide, whatever follows.
letters_decide : (a b : ℕ) → ¬ (a ≡ b) → (c : words.Comparison) → or_else (compare_numbers a b) c ≡ compare_numbers a b
letters_decide a b d c = go (compare_numbers a b) (compare_numbers_holds a b)
  where
    go : (e : words.Comparison) → Means rising e a b → or_else e c ≡ e
    go words.below m = refl
    go words.same m = absurd (d m.lower)
    go words.above m = refl

-- Letters that are the same leave what follows.
letters_pass : (a b : ℕ) → a ≡ b → (c : words.Comparison) → or_else (compare_numbers a b) c ≡ c
letters_pass a b e c = go (compare_numbers a b) (compare_numbers_holds a b)
  where
    go : (f : words.Comparison) → Means rising f a b → or_else f c ≡ c
    go words.below m = absurd (m.0 e)
    go words.same m = refl
    go words.above m = absurd (m.0 (sym e))

-- The comparison of what is left of the copies of u and of v from position k on, and then of the lengths, is that of the texts.
abbrev Rest : List ℕ → List ℕ → ℕ → ℕ → Type 0
Rest u v left k = or_else (compare_copies decided_rising 0 u v left k) (compare_numbers (length v) (length u)) ≡ compare_infinite decided_rising 0 u v

-- Letters of the copies of u and of v are compared up to `most`, of which the first k were the same: i and j are the positions of letter k in u
-- and in v.
pub record Comparing (u v : List ℕ) (most k i j : ℕ) : Type 0 where
  pub first : i ≡ k % length u
  pub second : j ≡ k % length v
  pub in_first : i < length u
  pub in_second : j < length v
  pub left : ℕ
  pub total : left + k ≡ most
  pub rest : Rest u v left k

-- |u| + |v| letters are enough.
pub comparing_start : (u v : List ℕ) (most : ℕ) → 0 < length u → 0 < length v → length u + length v ≤ most → Comparing u v most 0 0 0
comparing_start u v most p q enough =
    record {
      first = sym (mod-eq_of_lt p);
      second = sym (mod-eq_of_lt q);
      in_first = p;
      in_second = q;
      left = most;
      total = omega arith;
      rest = compare_infinite_enough rising decided_rising 0 u v p q most enough;
    }

module _ (u v : List ℕ) {most k i j : ℕ} (s : Comparing u v most k i j) where
  -- The letters at k are those at i and j.
  letters_at : (left : ℕ) → Rest u v (suc left) k →
      or_else (or_else (compare_numbers (get_or u i 0) (get_or v j 0)) (compare_copies decided_rising 0 u v left (suc k))) (compare_numbers (length v) (length u)) ≡
      compare_infinite decided_rising 0 u v
  letters_at left f =
      let more : words.Comparison = compare_copies decided_rising 0 u v left (suc k) in
      let lengths : words.Comparison = compare_numbers (length v) (length u) in
      ap (λ (h : ℕ). or_else (or_else (compare_numbers (get_or u h 0) (get_or v j 0)) more) lengths) s.first ∙
      ap (λ (h : ℕ). or_else (or_else (compare_numbers (copied 0 u k) (get_or v h 0)) more) lengths) s.second ∙
      ap (λ (c : words.Comparison). or_else c lengths) (sym (compare_copies_step decided_rising 0 u v left k)) ∙ f

  -- Letters that differ decide.
  pub comparing_differs : {r : Ordering} {a b : ℕ} → k < most → a ≡ get_or u i 0 → b ≡ get_or v j 0 → ¬ (a ≡ b) → r ≡ nat_cmp a b →
      r ≡ comparison_of (compare_infinite decided_rising 0 u v)
  comparing_differs {r} {a} {b} l p q d e = e ∙ compared a b ∙ ap comparison_of (go s.left s.total s.rest)
    where
      go : (left : ℕ) → left + k ≡ most → Rest u v left k → compare_numbers a b ≡ compare_infinite decided_rising 0 u v
      go zero t f = absurd (omega (arith, t, l))
      go (suc left) t f =
          let at : compare_numbers (get_or u i 0) (get_or v j 0) ≡ compare_numbers a b = rw (p, q) in
          let more : words.Comparison = compare_copies decided_rising 0 u v left (suc k) in
          let lengths : words.Comparison = compare_numbers (length v) (length u) in
          sym (letters_decide a b d lengths) ∙ ap (λ (c : words.Comparison). or_else c lengths) (sym (letters_decide a b d more)) ∙
          ap (λ (c : words.Comparison). or_else (or_else c more) lengths) (sym at) ∙ letters_at left f

  -- Letters that are the same leave the comparison of those behind them.
  pub comparing_next : (i' j' : ℕ) → k < most → get_or u i 0 ≡ get_or v j 0 → i' ≡ (i + 1) % length u → j' ≡ (j + 1) % length v →
      Comparing u v most (k + 1) i' j'
  comparing_next i' j' l e p q = go s.left s.total s.rest
    where
      go : (left : ℕ) → left + k ≡ most → Rest u v left k → Comparing u v most (k + 1) i' j'
      go zero t f = absurd (omega (arith, t, l))
      go (suc left) t f =
          let one : suc k ≡ k + 1 = omega arith in
          let pass = letters_pass (get_or u i 0) (get_or v j 0) e (compare_copies decided_rising 0 u v left (suc k)) in
          record {
            first = behind i' i k (length u) s.first p;
            second = behind j' j k (length v) s.second q;
            in_first = subst (λ (h : ℕ). h < length u) (sym p) (mod-lt (i + 1) (omega (arith, s.in_first)));
            in_second = subst (λ (h : ℕ). h < length v) (sym q) (mod-lt (j + 1) (omega (arith, s.in_second)));
            left = left;
            total = omega (arith, t);
            rest =
                subst (Rest u v left) one
                (ap (λ (c : words.Comparison). or_else c (compare_numbers (length v) (length u))) (sym pass) ∙ letters_at left f);
          }
