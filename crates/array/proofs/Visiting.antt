-- A visited position: its word is joined and stored, and its run listed.
-- Assumes nothing.
use mathlib.Core.Path.{◌≡◌, refl, subst, sym, ◌∙◌}
use mathlib.Core.List.{List}
use Prim.Native.Nat.{ℕ, suc, ◌+◌, ◌<◌, ◌≤◌, ◌-◌, min}
use native.Mathlib.Decide.{dec_lt, ℕ_discrete}
use native.Mathlib.Omega.{arith}
use lib.ListN.{length}
use Rattle.words.specs.Laws.Position.{Agree}
use Rattle.words.specs.Laws.RunListing.{repeated_not_listed, root_agreement_short}
use Rattle.words.specs.Laws.RunMarks.{end_bound}
use Rattle.words.specs.Laws.SpanLyndon.{letters}
use Rattle.words.specs.Laws.SuffixOrder.{NextSmaller, agree_less}
use Rattle.words.specs.Letters.{rising}
use Rattle.std.specs.declared.cmp.Ordering.{Ordering}
use Rattle.std.specs.declared.cmp.Ordering.TheVariants.{Less, Equal, Greater}
use Rattle.array.specs.declared.joined.Joined.{Joined}
use Rattle.array.specs.Core.Join.{SameWord, Stopped, JoinedTo, Agreeing}
use Rattle.array.specs.Core.Joining.{Joining}
use Rattle.array.specs.Core.Place.{stored_at}
use Rattle.array.specs.Core.Rows.{entry_of}
use Rattle.array.specs.Core.RunExtent.{StoppedAt, Exact, ExtendedTo, AtRoot}
use Rattle.array.specs.Core.RunPass.{Listed, skipped, Visited}
use Rattle.array.proofs.Entries.{entry_next, entry_own}
use Rattle.array.proofs.Filling.{stored_size, rows_stored}
use Rattle.array.proofs.JoiningLaws.{joining_agreed}

module _ (x before buf : List ℕ) (i : ℕ) (r : Joined) (w : JoinedTo 0 x before buf i r) where
  -- What the join loop hands on.
  pub stopped_at : length x ≤ length before → StoppedAt x buf i r.end r.agreed r.stop
  stopped_at fits =
      record {
        order = 0;
        after = w.joining.lyndon.non_empty;
        inside = w.joining.inside;
        fits = omega (arith, w.changed.size);
        own = λ l. entry_own 0 x buf r.end l w.joining.rows;
        agreeing = λ l. record { agree = w.joining.agree l; within = w.joining.within l };
        stopped = w.stopped;
      }

  -- The agreement that the run pass stores.
  pub extended_joining : (k : ℕ) → ExtendedTo x i r.end k r.stop →
      Joining rising (letters 0 x) (length x) (entry_of 0 x) (letters 0 buf) i r.end k r.part
  extended_joining k e =
      joining_agreed w.joining (λ l. (agreeing r.stop w.stopped e).agree) (λ l. (agreeing r.stop w.stopped e).within)
    where
      agreeing : (c : Ordering) → Stopped 0 x i r.end r.agreed c → ExtendedTo x i r.end k c → Agreeing x i r.end k
      agreeing Less q h = absurd q
      agreeing Equal q h = h
      agreeing Greater q h = record { agree = h.agree; within = h.within }

  -- Where the comparison said above, the agreement is shorter than the word.
  pub at_root : (k : ℕ) → ExtendedTo x i r.end k r.stop → r.stop ≡ Greater → AtRoot x i r.end k
  at_root k h e = record { next = w.next; exact = exact; short = go (dec_lt r.end (length x)) }
    where
      j : ℕ
      j = r.end

      exact : Exact x i r.end k
      exact = subst (ExtendedTo x i r.end k) e h

      v : ℕ
      v = entry_of 0 x r.end

      not_same : j < length x → ¬ SameWord x i j v
      not_same l = (subst (λ (c : Ordering). Stopped 0 x i j r.agreed c) e w.stopped l).0

      on : i + (j - i) ≡ j
      on = omega (arith, w.joining.lyndon.non_empty)

      equal : j < length x → v ≡ j - i → Dec (i + k < j) → i + k < j
      equal l q (yes m) = m
      equal l q (no m) =
          absurd
          (not_same l
          (omega (arith, on, q), agree_less (letters 0 x) i j k v exact.agree (omega (arith, m, on, q))))

      longer : j < length x → Dec (v ≡ j - i) → i + k < j
      longer l (yes q) = equal l q (dec_lt (i + k) j)
      longer l (no q) =
          let a : k < j - i =
          root_agreement_short rising (letters 0 x) (length x) i (j - i) v k
          (subst (λ (m : ℕ). NextSmaller rising (letters 0 x) (length x) i m) (sym on) w.next)
          (subst (λ (m : ℕ). NextSmaller rising (letters 0 x) (length x) m (m + v)) (sym on) (entry_next 0 x j l))
          q (subst (λ (m : ℕ). Agree (letters 0 x) i m k) (sym on) exact.agree) (omega (arith, on, exact.within)) in
          omega (arith, on)

      go : Dec (j < length x) → i + k < j
      go (yes l) = longer l (ℕ_discrete v (j - i))
      go (no l) = omega (arith, l, exact.within, w.joining.lyndon.non_empty, w.joining.inside)

  -- Where it said same, the run is listed at a later root.
  same_not_listed : (order : ℕ) (list : List ℕ) (count : ℕ) → r.stop ≡ Equal → Listed order x list list i count count
  same_not_listed order list count e =
      let q : (r.end < length x) × SameWord x i r.end (entry_of 0 x r.end) =
      subst (λ (c : Ordering). Stopped 0 x i r.end r.agreed c) e w.stopped in
      let p : ℕ = entry_of 0 x r.end in
      let nj = entry_next 0 x r.end q.0 in
      skipped refl refl
      (λ t.
      repeated_not_listed rising (letters 0 x) (length x) i p
      (subst (λ (m : ℕ). NextSmaller rising (letters 0 x) (length x) i m) (sym q.1.0) w.next)
      (subst (λ (m : ℕ). Agree (letters 0 x) i m p) (sym q.1.0) q.1.1) (omega (arith, q.1.0, nj.inside))
      (end_bound order (length x)) t.start (suc t.last) t.period)

  -- Where the comparison did not say above, nothing is listed: it never said below.
  pub not_listed : (order : ℕ) (list : List ℕ) (count : ℕ) → ¬ (r.stop ≡ Greater) → Listed order x list list i count count
  not_listed order list count other = go r.stop refl other
    where
      go : (c : Ordering) → r.stop ≡ c → ¬ (c ≡ Greater) → Listed order x list list i count count
      go Less e t = absurd (subst (λ (c : Ordering). Stopped 0 x i r.end r.agreed c) e w.stopped)
      go Equal e t = same_not_listed order list count e
      go Greater e t = absurd (t refl)

-- A visited position: its row is stored, and its run is listed.
pub visited : (order : ℕ) (x before buf after list list' : List ℕ) (i k count m : ℕ) (r : Joined) →
    length x ≤ length before → JoinedTo 0 x before buf i r → ExtendedTo x i r.end k r.stop →
    after ≡ stored_at buf i r.end (min k r.part) → Listed order x list list' i count m → Visited order x before after list list' i count m
visited order x before buf after list list' i k count m r fits w e stored l =
    rw stored
    (record {
      rows =
          rows_stored 0 x buf i r.end k r.part (min k r.part) (omega (arith, w.changed.size)) (extended_joining x before buf i r w k e) w.next (omega arith)
          (omega arith);
      size = stored_size buf i r.end (min k r.part) ∙ w.changed.size;
      entry = l;
    })
