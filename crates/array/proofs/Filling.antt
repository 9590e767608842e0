-- Filling the buffer from the last position on.
-- Assumes nothing.
use mathlib.Core.Path.{◌≡◌, subst, ◌∙◌}
use mathlib.Core.Bool.{Bool, true, false}
use mathlib.Core.List.{List}
use mathlib.Core.Logic.{◌⊎◌, inl, inr}
use Prim.Native.Nat.{ℕ, suc, ◌+◌, ◌<◌, ◌≤◌, ◌-◌, min}
use native.Mathlib.Decide.{dec_lt}
use native.Mathlib.Omega.{arith}
use lib.ListN.{length, get_or, set, length-set}
use lib.Seq.{get_or-set_same, get_or-set_other}
use borrow.Author.Tests.{lt-ltb, le-ltb}
use Rattle.std.specs.Prelude.{cond, ltb}
use Rattle.words.specs.Laws.SpanLyndon.{letters}
use Rattle.words.specs.Laws.SuffixOrder.{NextSmaller}
use Rattle.words.specs.Letters.{order_of}
use Rattle.answer.specs.Limits.{max_length}
use Rattle.array.specs.declared.joined.Joined.{Joined}
use Rattle.array.specs.Core.Join.{JoinReady, JoinedTo}
use Rattle.array.specs.Core.Joining.{LastPart, Joining}
use Rattle.array.specs.Core.Place.{StoreReady, stored_at}
use Rattle.array.specs.Core.Rows.{finished, entry_of, RowsOf}
use Rattle.array.proofs.Entries.{entry_next}
use Rattle.array.proofs.JoiningLaws.{joining_store}
use Rattle.array.proofs.Known.{agreement_short}

-- In a buffer of the text's length the positions from i on have been joined.
pub record Filled (order : ℕ) (x buf : List ℕ) (i : ℕ) : Type 0 where
  pub size : length buf ≡ length x
  pub rows : RowsOf order x buf i

-- Nothing is filled before the first position.
pub filled_start : (order : ℕ) (x buf : List ℕ) (n : ℕ) → n ≡ length x → length buf ≡ length x → Filled order x buf n
filled_start order x buf n end size = record { size = size; rows = finished end }

-- What is stored at the last place of a word of two letters or more fits.
stored_small : (order : ℕ) (x before buf : List ℕ) (i s : ℕ) (r : Joined) → JoinedTo order x before buf i r → s ≤ r.part → 1 < r.end - i →
    s ≤ length x
stored_small order x before buf i s r w h l = go w.joining.joined
  where
    go : (r.end ≡ suc i) ⊎ LastPart (letters 0 x) (entry_of order x) i r.end r.part → s ≤ length x
    go (inl e) = absurd (omega arith)
    go (inr p) =
        omega (
          arith,
          w.joining.inside,
          agreement_short (order_of order) (letters 0 x) i r.end p.part r.part w.joining.lyndon p.after p.before p.agree,
        )

-- What joining at the position before i asks for.
pub filled_ready : (order : ℕ) (x buf : List ℕ) (i n : ℕ) → Filled order x buf i → length x ≤ max_length → 0 < i → i ≤ n → n ≡ length x →
    JoinReady order x buf (i - 1)
filled_ready order x buf i n f small p q size =
    let e : i ≡ i - 1 + 1 = omega arith in
    record {
      inside = omega arith;
      fits = omega (arith, f.size);
      small = small;
      rows = subst (λ (k : ℕ). RowsOf order x buf k) e f.rows;
    }

-- What storing the joined word asks for.
pub store_ready : (order : ℕ) (x before buf : List ℕ) (i k : ℕ) (r : Joined) → JoinedTo order x before buf i r →
    length x ≤ length before → length x ≤ max_length → StoreReady buf i r.end (min k r.part)
store_ready order x before buf i k r w fits small =
    record {
      after = w.joining.lyndon.non_empty;
      inside = omega (arith, w.joining.inside, w.changed.size);
      small = omega (arith, w.joining.inside);
      stored = λ l. omega (arith, stored_small order x before buf i (min k r.part) r w (omega arith) l);
    }

-- The same in the loop that fills.
pub filled_store_ready : (order : ℕ) (x before buf : List ℕ) (i k : ℕ) (r : Joined) → Filled order x before i →
    JoinedTo order x before buf (i - 1) r → length x ≤ max_length → StoreReady buf (i - 1) r.end (min k r.part)
filled_store_ready order x before buf i k r f w small = store_ready order x before buf (i - 1) k r w (omega (arith, f.size)) small

-- The buffer is as long as before.
pub stored_size : (buf : List ℕ) (i e s : ℕ) → length (stored_at buf i e s) ≡ length buf
stored_size buf i e s = go (ltb 1 (e - i))
  where
    go : (long : Bool) → length (cond long (set (set buf i (e - i)) (e - 1) s) (set buf i (e - i))) ≡ length buf
    go true = length-set (set buf i (e - i)) (e - 1) s ∙ length-set buf i (e - i)
    go false = length-set buf i (e - i)

-- The length of the word from i is stored.
pub rows_stored : (order : ℕ) (x after : List ℕ) (i e k g s : ℕ) → length x ≤ length after →
    Joining (order_of order) (letters 0 x) (length x) (entry_of order x) (letters 0 after) i e k g →
    NextSmaller (order_of order) (letters 0 x) (length x) i e → s ≤ k → s ≤ g → RowsOf order x (stored_at after i e s) i
rows_stored order x after i e k g s fits joining next a b = go (dec_lt 1 (e - i))
  where
    p : i < e
    p = joining.lyndon.non_empty

    q : e ≤ length x
    q = joining.inside

    go : Dec (1 < e - i) → RowsOf order x (stored_at after i e s) i
    go (yes l) =
        simp (lt-ltb _ _ l)
        (joining_store (entry_next order x) joining next (own' l) a b
        (λ t h z.
        subst (λ (u : ℕ). get_or (set (set after i (e - i)) (e - 1) s) u 0 ≡ s) (last t z)
        (get_or-set_same (set after i (e - i)) (e - 1) s 0 (omega (arith, length-set after i (e - i), p, q))))
        (λ t h m z.
        get_or-set_other (set after i (e - i)) (e - 1) t s 0 (λ y. z (omega (arith, l), omega (arith, p))) ∙
        get_or-set_other after i t (e - i) 0 (λ y. omega arith)))
      where
        last : (t : ℕ) → suc t ≡ e → e - 1 ≡ t
        last t z = omega arith

        own' : 1 < e - i → i + get_or (set (set after i (e - i)) (e - 1) s) i 0 ≡ e
        own' h =
            let z : get_or (set (set after i (e - i)) (e - 1) s) i 0 ≡ e - i =
            get_or-set_other (set after i (e - i)) (e - 1) i s 0 (λ y. omega (arith, h)) ∙
            get_or-set_same after i (e - i) 0 (omega (arith, p, q)) in
            omega (arith, p)
    go (no l) =
        let m : e - i ≤ 1 = omega (arith, l) in
        simp (le-ltb _ _ m)
        (joining_store (entry_next order x) joining next own'' a b (λ t h z. absurd (omega (arith, l)))
        (λ t h m' z. get_or-set_other after i t (e - i) 0 (λ y. omega arith)))
      where
        own'' : i + get_or (set after i (e - i)) i 0 ≡ e
        own'' =
            let z : get_or (set after i (e - i)) i 0 ≡ e - i = get_or-set_same after i (e - i) 0 (omega (arith, p, q)) in
            omega (arith, p)

-- One position more has been joined.
pub filled_step : (order : ℕ) (x before joined after : List ℕ) (i : ℕ) (r : Joined) → Filled order x before i →
    JoinedTo order x before joined (i - 1) r → after ≡ stored_at joined (i - 1) r.end (min r.agreed r.part) → Filled order x after (i - 1)
filled_step order x before joined after i r f w stored =
    rw stored
    (record {
      size = stored_size joined (i - 1) r.end (min r.agreed r.part) ∙ w.changed.size ∙ f.size;
      rows =
          rows_stored order x joined (i - 1) r.end r.agreed r.part (min r.agreed r.part) (omega (arith, w.changed.size, f.size)) w.joining w.next
          (omega arith) (omega arith);
    })

-- The start of the loop, and its steps.
pub ruleset filling = (filled_start, filled_store_ready, filled_step)
