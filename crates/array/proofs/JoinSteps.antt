-- The join loop: its start, a factor joined, and each way it ends.
-- Assumes nothing.
use mathlib.Core.Path.{◌≡◌, refl, subst, sym, ap, ◌∙◌}
use mathlib.Core.List.{List}
use Prim.Native.Nat.{ℕ, ◌+◌, ◌<◌, ◌≤◌, min}
use native.Mathlib.Omega.{arith}
use lib.ListN.{length, get_or}
use Rattle.words.specs.Laws.Position.{SpanLyndon}
use Rattle.words.specs.Laws.SpanLyndon.{letters}
use Rattle.words.specs.Laws.SuffixOrder.{NextSmaller}
use Rattle.words.specs.Letters.{order_of}
use Rattle.std.specs.declared.cmp.Ordering.{Ordering}
use Rattle.std.specs.declared.cmp.Ordering.TheVariants.{Less, Equal, Greater}
use Rattle.answer.specs.ContentLaws.{kept_then, kept_where}
use Rattle.answer.specs.Limits.{max_length}
use Rattle.array.specs.declared.factor.Factor.{Factor}
use Rattle.array.specs.Core.Join.{Stopped, JoinReady, JoinedTo, Agreeing}
use Rattle.array.specs.Core.Place.{factor_at, restored_at}
use Rattle.array.specs.Core.Rows.{entry_of}
use Rattle.array.proofs.Comparing.{Compared, CompareReady, JoinLoop, Comparing, comparing}
use Rattle.array.proofs.Entries.{entry_next, entry_own}
use Rattle.array.proofs.JoiningLaws.{joining_agreed, joining_step}
use Rattle.array.proofs.Leaving.{leave_end}
use Rattle.array.proofs.RestoredPlace.{restored_others, restored_one}

-- What comparing with the factor at j asks for.
compare_ready : {order : ℕ} {x before buf : List ℕ} {i j k g n : ℕ} {f : Factor} → JoinLoop order x before buf i j k g → length x ≤ length before →
    length x ≤ max_length → n ≡ length x → j < n → f ≡ factor_at buf j → CompareReady order x buf i f k
compare_ready {order} {x} {buf = buf} {i = i} {j} {k} {g} {f = f} w fits small size inside e =
    rw e
    (record {
      fits = omega (arith, w.changed.size);
      small = small;
      inside = omega arith;
      is_factor = refl;
      part = g;
      joining = w.joining;
    })

-- What is known there.
pub word_compared : {order : ℕ} {x before buf : List ℕ} {i j k g n : ℕ} {f : Factor} → JoinReady order x before i → JoinLoop order x before buf i j k g →
    n ≡ length x → j < n → f ≡ factor_at buf j → Comparing order x buf i f.start f.length f.known
word_compared ready w size inside e = comparing (compare_ready w ready.fits ready.small size inside e)

-- It is joined: the next state of the loop.
module _ {order : ℕ} {x before buf : List ℕ} {i j k₀ g₀ n : ℕ} {f : Factor} (ready : JoinReady order x before i) (w : JoinLoop order x before buf i j k₀ g₀)
    (size : n ≡ length x) (inside : j < n) (e : f ≡ factor_at buf j) where
  pub join_step : {after : List ℕ} {k k' : ℕ} {v : Ordering} → Compared order x i f.start k v → v ≡ Less → after ≡ restored_at buf f.start f.length →
      k' ≡ min k f.known → JoinLoop order x before after i (j + f.length) k' k
  join_step {after} {k} {k'} told is_below changed least =
      rw (changed, ap (λ (h : Factor). h.start) e, cw.is_length)
      (record {
        changed =
            kept_then w.changed
            (kept_where (restored_others buf j m) (λ t h z. h (omega (arith, nj.after), omega (arith, nj.inside))));
        joining =
            joining_step (entry_next order x)
            w.joining within cw.known c.0.agree c.1 (omega arith) (omega arith) (λ t p h. (restored_others buf j m).kept t h)
            (λ t z.
            restored_one buf j m t (omega (arith, nj.inside, cw.fits))
            (λ q.
            let u : t ≡ j = omega (arith, nj.after) in
            ap (λ (v : ℕ). get_or buf v 0) u ∙ entry_own order x buf j within w.joining.rows ∙ omega (arith, nj.after)) z);
      })
    where
      within : j < length x
      within = omega arith

      cw : Comparing order x buf i j f.length f.known
      cw = subst (λ (t : ℕ). Comparing order x buf i t f.length f.known) (ap (λ (h : Factor). h.start) e) (word_compared ready w size inside e)

      m : ℕ
      m = entry_of order x j

      nj : NextSmaller (order_of order) (letters 0 x) (length x) j (j + m)
      nj = entry_next order x j within

      c : Compared order x i j k Less
      c = subst (λ (t : ℕ). Compared order x i t k Less) (ap (λ (h : Factor). h.start) e) (subst (Compared order x i f.start k) is_below told)

-- The comparison did not say below: the word ends at its next smaller suffix.
pub joined_stopped : {order : ℕ} {x before buf : List ℕ} {i j k₀ g₀ k : ℕ} {f : Factor} {v : Ordering} → JoinLoop order x before buf i j k₀ g₀ →
    f ≡ factor_at buf j → Compared order x i f.start k v → ¬ (v ≡ Less) → JoinedTo order x before buf i (record { end = j; agreed = k; part = g₀; stop = v })
joined_stopped {order} {x} {before} {buf} {i} {j} {k₀} {g₀} {k} {v = v} w e told =
    go v (subst (λ (t : ℕ). Compared order x i t k v) (ap (λ (h : Factor). h.start) e) told)
  where
    ended : (u : Ordering) → Agreeing x i j k × NextSmaller (order_of order) (letters 0 x) (length x) i j × Stopped order x i j k u →
        JoinedTo order x before buf i (record { end = j; agreed = k; part = g₀; stop = u })
    ended u c =
        record {
          changed = w.changed;
          joining =
              joining_agreed w.joining (λ q. c.0.agree) (λ q. c.0.within);
          next = c.1;
          stopped = c.2;
        }

    go : (u : Ordering) → Compared order x i j k u → ¬ (u ≡ Less) →
        JoinedTo order x before buf i (record { end = j; agreed = k; part = g₀; stop = u })
    go Less c other = absurd (other refl)
    go Equal c other = ended Equal c
    go Greater c other = ended Greater c

-- The text ended.
pub joined_end : {order : ℕ} {x before buf : List ℕ} {i j k g n : ℕ} → JoinLoop order x before buf i j k g → n ≡ length x → n ≤ j →
    JoinedTo order x before buf i (record { end = j; agreed = k; part = g; stop = Greater })
joined_end {order} {x} {i = i} {j} w size h =
    let e : length x ≡ j = omega (arith, w.joining.inside) in
    record {
      changed = w.changed;
      joining = w.joining;
      next =
          subst (λ (m : ℕ). NextSmaller (order_of order) (letters 0 x) (length x) i m) e
          (leave_end (subst (λ (m : ℕ). SpanLyndon (order_of order) (letters 0 x) i m) (sym e) w.joining.lyndon));
      stopped = λ q. absurd (omega arith);
    }
