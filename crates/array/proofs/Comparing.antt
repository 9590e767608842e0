-- What is known where the word is compared with the factor after it.
-- Assumes nothing.
use mathlib.Core.Path.{◌≡◌, subst, sym, ap, ◌∙◌}
use mathlib.Core.List.{List}
use Prim.Native.Nat.{ℕ, ◌+◌, ◌<◌, ◌≤◌, ◌-◌}
use native.Mathlib.Decide.{dec_lt}
use native.Mathlib.Omega.{arith}
use lib.ListN.{length, get_or}
use borrow.Author.Tests.{lt-ltb, le-ltb}
use Rattle.words.specs.Laws.Position.{SpanLess, SpanLyndon}
use Rattle.words.specs.Laws.SpanLyndon.{letters}
use Rattle.words.specs.Laws.SuffixOrder.{NextSmaller}
use Rattle.words.specs.Letters.{order_of}
use Rattle.answer.specs.Limits.{max_length}
use Rattle.answer.specs.Content.{Kept}
use Rattle.std.specs.declared.cmp.Ordering.{Ordering}
use Rattle.std.specs.declared.cmp.Ordering.TheVariants.{Less, Equal, Greater}
use Rattle.array.specs.declared.factor.Factor.{Factor}
use Rattle.array.specs.Core.Join.{Stopped, Outside, Agreeing}
use Rattle.array.specs.Core.Joining.{Joining}
use Rattle.array.specs.Core.Place.{factor_at, remembered_at}
use Rattle.array.specs.Core.Rows.{entry_of, RowsOf}
use Rattle.array.proofs.Entries.{entry_next, entry_own}
use Rattle.array.proofs.Known.{Known, known_letter, known_word}
use Rattle.array.proofs.RowLaws.{Front, front}

-- What the comparison of the word from i to j with the factor at j says, and on how many letters k they agree.
abbrev pub Compared : ℕ → List ℕ → ℕ → ℕ → ℕ → Ordering → Type 0
Compared order x i j k Less =
    Agreeing x i j k × SpanLess (order_of order) (letters 0 x) i j j (j + entry_of order x j)
Compared order x i j k Equal =
    Agreeing x i j k × NextSmaller (order_of order) (letters 0 x) (length x) i j × Stopped order x i j k Equal
Compared order x i j k Greater =
    Agreeing x i j k × NextSmaller (order_of order) (letters 0 x) (length x) i j × Stopped order x i j k Greater

-- What comparing asks for: the word from i is joined up to the factor f of the buffer, and agrees with it on k letters.
pub record CompareReady (order : ℕ) (x buf : List ℕ) (i : ℕ) (f : Factor) (k : ℕ) : Type 0 where
  pub fits : length x ≤ length buf
  pub small : length x ≤ max_length
  pub inside : f.start < length x
  pub is_factor : f ≡ factor_at buf f.start
  pub part : ℕ
  pub joining : Joining (order_of order) (letters 0 x) (length x) (entry_of order x) (letters 0 buf) i f.start k part

-- The state of the join loop of position i: the buffer at the start, the buffer now, and how far it has come.
pub record JoinLoop (order : ℕ) (x before buf : List ℕ) (i j k g : ℕ) : Type 0 where
  pub changed : Kept (Outside i (length x)) before buf
  pub joining : Joining (order_of order) (letters 0 x) (length x) (entry_of order x) (letters 0 buf) i j k g

-- What is known of the factor at j from the number remembered at its last place.
known_remembered : (order : ℕ) (x buf : List ℕ) (j : ℕ) → j < length x → RowsOf order x buf j →
    Known (letters 0 x) (length x) (entry_of order x) (letters 0 buf) j (remembered_at buf j (entry_of order x j))
known_remembered order x buf j l r = go (dec_lt 1 (entry_of order x j))
  where
    f : Front (letters 0 x) (length x) (entry_of order x) (letters 0 buf) j
    f = front l r

    go : Dec (1 < entry_of order x j) → Known (letters 0 x) (length x) (entry_of order x) (letters 0 buf) j (remembered_at buf j (entry_of order x j))
    go (yes h) =
        let m = f.remembered h in
        let e : m.last ≡ j + entry_of order x j - 1 = omega (arith, m.last_is) in
        simp (lt-ltb _ _ h)
        (subst (λ (t : ℕ). Known (letters 0 x) (length x) (entry_of order x) (letters 0 buf) j (get_or buf t 0)) e
        (known_word (entry_next order x) m))
    go (no h) =
        let e : entry_of order x j ≤ 1 = omega (arith, h) in
        simp (le-ltb _ _ e)
        (known_letter l (omega (arith, (entry_next order x j l).after)))

-- What is known where the word from i to j is compared with the factor at j: l is the factor's length, s the number remembered of it.
pub record Comparing (order : ℕ) (x buf : List ℕ) (i j l s : ℕ) : Type 0 where
  pub lyndon : SpanLyndon (order_of order) (letters 0 x) i j
  pub inside : j < length x
  pub fits : length x ≤ length buf
  pub small : length x ≤ max_length
  pub after : i < j
  pub is_length : l ≡ entry_of order x j
  pub positive : 0 < l
  pub ends : j + l ≤ length x
  pub known : Known (letters 0 x) (length x) (entry_of order x) (letters 0 buf) j s
  pub short : s < l

-- It follows from what is asked for.
pub comparing : {order : ℕ} {x buf : List ℕ} {i k : ℕ} {f : Factor} → CompareReady order x buf i f k → Comparing order x buf i f.start f.length f.known
comparing {order} {x} {buf} {f = f} w =
    let e : f.length ≡ entry_of order x f.start = ap (λ (h : Factor). h.length) w.is_factor ∙ entry_own order x buf f.start w.inside w.joining.rows in
    let nj = entry_next order x f.start w.inside in
    let known : Known (letters 0 x) (length x) (entry_of order x) (letters 0 buf) f.start f.known =
    subst (λ (t : ℕ). Known (letters 0 x) (length x) (entry_of order x) (letters 0 buf) f.start t)
    (sym (ap (λ (h : Factor). h.known) w.is_factor ∙ ap (remembered_at buf f.start) (entry_own order x buf f.start w.inside w.joining.rows)))
    (known_remembered order x buf f.start w.inside w.joining.rows) in
    record {
      lyndon = w.joining.lyndon;
      inside = w.inside;
      fits = w.fits;
      small = w.small;
      after = w.joining.lyndon.non_empty;
      is_length = e;
      positive = omega (arith, nj.after);
      ends = omega (arith, nj.inside);
      known = known;
      short = omega (arith, known.short);
    }
