-- What each way out of the comparison shows.
-- Assumes nothing.
use mathlib.Core.Path.{◌≡◌, refl, ap, subst, sym, ◌∙◌}
use mathlib.Core.Bool.{Bool, true, false}
use mathlib.Core.List.{List}
use Prim.Native.Nat.{ℕ, ◌+◌, ◌<◌, ◌≤◌, ◌-◌}
use native.Mathlib.Decide.{ℕ_discrete, dec_lt}
use native.Mathlib.Omega.{arith}
use lib.ListN.{length, get_or}
use Rattle.std.proofs.Common.{eqb-true}
use Rattle.std.proofs.lemmas.Bool.{eqb-false, not-true, not-false}
use Rattle.std.specs.Prelude.{eqb, Option, Some, None}
use Rattle.words.specs.Laws.Position.{Agree, SpanLess, differs, shorter}
use Rattle.words.specs.Laws.SpanLyndon.{letters}
use Rattle.words.specs.Laws.SuffixOrder.{NextSmaller, agree_less}
use Rattle.words.specs.Letters.{order_of}
use Rattle.words.specs.Decided as words
use Rattle.words.specs.Decided.{Means, decided_order}
use Rattle.std.specs.declared.cmp.Ordering.{Ordering}
use Rattle.std.specs.declared.cmp.Ordering.TheVariants.{Less, Equal, Greater}
use Rattle.letters.specs.Compared.{comparison_of}
use Rattle.letters.specs.Keyed.{letters_differ}
use Rattle.array.specs.Core.Join.{Agreeing}
use Rattle.array.specs.Core.Place.{settled_at}
use Rattle.array.specs.Core.Rows.{entry_of}
use Rattle.array.proofs.Comparing.{Compared, Comparing}
use Rattle.array.proofs.Entries.{letters_compared, entry_next}
use Rattle.array.proofs.Leaving.{leave_letter, leave_prefix, never_past}
use Rattle.array.proofs.Settled.{settled_none, settled_word, settled_leap, settled_open}
use Rattle.array.proofs.Shortcut.{shortcut}

module _ {order : ℕ} {x buf : List ℕ} {i j l s : ℕ} (w : Comparing order x buf i j l s) {k : ℕ} where
  reached : l ≤ k → Agreeing x i j k → Agree (letters 0 x) i j (entry_of order x j)
  reached h g = agree_less (letters 0 x) i j k (entry_of order x j) g.agree (omega (arith, w.is_length))

  -- All of the factor at j agrees with the word before it: the word is at least as long.
  no_shorter : l ≤ k → Agreeing x i j k → i + l ≤ j
  no_shorter h g = go (dec_lt (j - i) l)
    where
      go : Dec (j - i < l) → i + l ≤ j
      go (yes q) =
          absurd
          (never_past (entry_of order x) (entry_next order x) i j (j - i) w.inside
          (omega (arith, w.after)) (omega (arith, w.after)) (omega (arith, w.is_length)) (reached h g))
      go (no q) = omega (arith, q, w.after)

  prefix_next : l ≤ k → Agreeing x i j k → NextSmaller (order_of order) (letters 0 x) (length x) i j
  prefix_next h g =
      leave_prefix (entry_of order x) (entry_next order x) (letters_compared order x) w.lyndon w.inside
      (omega (arith, no_shorter h g, w.is_length)) (reached h g)

  word_less : Agreeing x i j k → k ≡ j - i → j - i < l → SpanLess (order_of order) (letters 0 x) i j j (j + entry_of order x j)
  word_less g e h = shorter k (omega (arith, w.after)) (omega (arith, w.is_length)) g.agree

module _ {order : ℕ} {x buf : List ℕ} {i j l s : ℕ} (w : Comparing order x buf i j l s) {k : ℕ} (g : Agreeing x i j k)
    {k' : ℕ} {v : Ordering} where
  -- The factor ended without a difference, and is as long as the word.
  pub ended_same : l ≤ k → j - i ≡ l → k' ≡ k → v ≡ Equal → Compared order x i j k' v
  ended_same h e is_k is_v =
      rw (is_k, is_v) (g, prefix_next w h g, (w.inside, (omega (arith, w.after, w.is_length), reached w h g)))

  -- The factor ended without a difference, and is shorter than the word.
  pub ended_above : l ≤ k → ¬ (j - i ≡ l) → k' ≡ k → v ≡ Greater → Compared order x i j k' v
  ended_above h e is_k is_v =
      rw (is_k, is_v)
      (g, prefix_next w h g, λ q. (λ z. e (omega (arith, z.0, w.after, w.is_length)), λ q'. absurd (omega (arith, w.is_length))))

  -- A difference past the end of the word: the word is a proper prefix of the factor.
  pub past_below : k < l → j - i ≤ k → k' ≡ k → v ≡ Less → Compared order x i j k' v
  past_below h q is_k is_v =
      rw (is_k, is_v)
      (g, shorter (j - i) (omega (arith, w.after)) (omega (arith, w.is_length)) (agree_less (letters 0 x) i j k (j - i) g.agree q))

-- The letters compared are those at i + k, of the word, and at j + k, of the factor; r says whether they differ.
module _ {order : ℕ} {x buf : List ℕ} {i j l s : ℕ} (w : Comparing order x buf i j l s) {k : ℕ} (g : Agreeing x i j k)
    (h : k < l) {r : Bool} (e : r ≡ letters_differ x (i + k) (j + k)) where
  -- They are the same: one letter more agrees.
  pub agree_more : r ≡ false → Agreeing x i j (k + 1)
  agree_more f = record { agree = λ t m. at t m (dec_lt t k); within = omega (arith, w.ends) }
    where
      same : letters 0 x (i + k) ≡ letters 0 x (j + k)
      same = eqb-true _ _ (not-false (eqb (letters 0 x (i + k)) (letters 0 x (j + k))) (sym e ∙ f))

      at : (t : ℕ) → t < k + 1 → Dec (t < k) → letters 0 x (i + t) ≡ letters 0 x (j + t)
      at t m (yes n) = g.agree t n
      at t m (no n) = let z : k ≡ t = omega (arith, n) in subst (λ (u : ℕ). letters 0 x (i + u) ≡ letters 0 x (j + u)) z same

  -- They differ inside both: the smaller one of them decides.
  pub letter_told : {k' : ℕ} {u v : Ordering} → r ≡ true → k < j - i →
      u ≡ comparison_of ((decided_order order).compare (letters 0 x (i + k)) (letters 0 x (j + k))) → k' ≡ k → v ≡ u →
      Compared order x i j k' v
  letter_told t in_word is_u is_k is_v =
      rw (is_k, is_v ∙ is_u) (told ((decided_order order).compare (letters 0 x (i + k)) (letters 0 x (j + k))) ((decided_order order).right _ _))
    where
      differ : ¬ (letters 0 x (i + k) ≡ letters 0 x (j + k))
      differ = eqb-false _ _ (not-true (eqb (letters 0 x (i + k)) (letters 0 x (j + k))) (sym e ∙ t))

      told : (c : words.Comparison) → Means (order_of order) c (letters 0 x (i + k)) (letters 0 x (j + k)) → Compared order x i j k (comparison_of c)
      told words.below m = (g, differs k (omega arith) (omega (arith, w.is_length)) g.agree m)
      told words.same m = absurd (differ m.lower)
      told words.above m = (
        g,
        leave_letter k w.lyndon (omega (arith, w.ends)) g.agree m,
        λ q'. (λ z. differ (z.1 k (omega (arith, w.is_length))), λ q''. differ),
      )

  -- The word has ended without a difference, and is shorter than the factor.
  word_below : {k' : ℕ} {v : Ordering} → r ≡ false → k + 1 ≡ j - i → j - i < l → k' ≡ k + 1 → v ≡ Less → Compared order x i j k' v
  word_below f ended longer is_k is_v = let more = agree_more f in rw (is_k, is_v) (more, word_less w more ended longer)

  -- The same, and what is remembered of the factor tells how far they agree; m is the length of the factor's part behind that prefix.
  leap_below : {k' : ℕ} {v : Ordering} {m : ℕ} → r ≡ false → k + 1 ≡ j - i → j - i < l → j - i ≤ s →
      m ≡ get_or buf (j + (j - i)) 0 → j - i + m ≡ l → k' ≡ j - i + s → v ≡ Less → Compared order x i j k' v
  leap_below f ended longer enough part sum is_k is_v =
      let more = agree_more f in
      let q =
      shortcut (entry_next order x) (j - i) w.lyndon w.inside (omega (arith, w.after))
      (agree_less (letters 0 x) i j (k + 1) (j - i) more.agree (omega arith)) w.known enough
      (ap (λ (n : ℕ). j - i + n) (sym part) ∙ sum ∙ w.is_length) in
      rw (is_k, is_v) (record { agree = q.0; within = omega (arith, w.ends, w.is_length, q.1) }, word_less w more ended longer)

  -- Both: the word has ended without a difference, and what is remembered tells that it agrees with the factor on q letters.
  pub settled_below : {k' q : ℕ} {v : Ordering} {o : Option ℕ} → r ≡ false → k + 1 ≡ j - i → o ≡ settled_at buf j (j - i) l s → o ≡ Some q →
      k' ≡ q → v ≡ Less → Compared order x i j k' v
  settled_below {k'} {q} {v} {o} f ended is_o told is_k is_v = go (dec_lt (j - i) l) (dec_lt s (j - i)) (ℕ_discrete (j - i + get_or buf (j + (j - i)) 0) l)
    where
      told_as : {n : ℕ} → settled_at buf j (j - i) l s ≡ Some n → q ≡ n
      told_as e = let z = sym told ∙ is_o ∙ e in cc

      untold : settled_at buf j (j - i) l s ≡ None → Compared order x i j k' v
      untold e = let z = sym told ∙ is_o ∙ e in cc

      go : Dec (j - i < l) → Dec (s < j - i) → Dec (j - i + get_or buf (j + (j - i)) 0 ≡ l) → Compared order x i j k' v
      go (no n) d c = untold (settled_none buf j (j - i) l s (omega (arith, n)))
      go (yes m) (yes n) c = word_below f ended m (is_k ∙ told_as (settled_word buf j (j - i) l s m n) ∙ sym ended) is_v
      go (yes m) (no n) (yes c) =
          leap_below f ended m (omega (arith, n)) refl c (is_k ∙ told_as (settled_leap buf j (j - i) l s m (omega (arith, n)) c)) is_v
      go (yes m) (no n) (no c) = untold (settled_open buf j (j - i) l s m (omega (arith, n)) c)
