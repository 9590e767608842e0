-- The pass that marks the starts of the factors: what holds at each turn of its loop.
-- Assumes nothing.
use mathlib.Core.Path.{◌≡◌, sym, ap, subst, ◌∙◌}
use mathlib.Core.List.{List}
use Prim.Native.Nat.{ℕ, suc, ◌-◌, ◌<◌, ◌≤◌}
use native.Mathlib.Omega.{arith}
use native.Mathlib.Decide.{dec_lt, ℕ_discrete}
use lib.ListN.{length, get_or, set}
use lib.Seq.{get_or-set_same, get_or-set_other}
use Rattle.words.specs.Laws.LeftForest.{Uncrossed, FirstCrossing, start_uncrossed}
use Rattle.answer.specs.Content.{Kept, From}
use Rattle.answer.specs.ContentLaws.{kept_then, kept_where, kept_set}
use Rattle.left_forest.specs.Links.{Descends, Linked, OwnRoots}
use Rattle.left_forest.proofs.Linking.{link_falls, crossed_differs}

-- Marking has come down to t in a buffer: the positions up to e behind t that no word crosses hold themselves.
pub record MarkedTo (start : ℕ → ℕ) (before out : List ℕ) (e t : ℕ) : Type 0 where
  pub own : (j : ℕ) → t < j → j ≤ e → Uncrossed start (suc e) j → get_or out j 0 ≡ j
  pub kept : (j d : ℕ) → d ≤ e → FirstCrossing start j d → get_or out j 0 ≡ get_or before j 0
  pub others : Kept (From (suc e)) before out

-- What holds at each turn of the loop, of a buffer before and now.
pub record Marking (first before out : List ℕ) (last t : ℕ) : Type 0 where
  pub intact : Kept (λ k. k ≤ t) before out
  pub holds : (start : ℕ → ℕ) (e : ℕ) → Linked start first e last → Uncrossed start (suc e) t × (t ≤ e) × MarkedTo start before out e t

module _ (first before out : List ℕ) (last t next : ℕ) (w : Marking first before out last t) (l : 0 < t) (room : t < length out)
    (link : next ≡ get_or first t 0) (falls : next < t) where
  -- t is marked, and the next position that no word crosses is the link's.
  pub marking_step : Marking first before (set out t t) last next
  marking_step =
      record {
        intact = kept_then (kept_where w.intact (λ k p. omega (arith, falls))) (kept_set out t t (λ k p q. omega (arith, falls)));
        holds = λ start e k. step start e k (w.holds start e k);
      }
    where
      i : ℕ
      i = t - 1

      at : suc i ≡ t
      at = omega (arith, l)

      step : (start : ℕ → ℕ) (e : ℕ) → Linked start first e last → Uncrossed start (suc e) t × (t ≤ e) × MarkedTo start before out e t →
          Uncrossed start (suc e) next × (next ≤ e) × MarkedTo start before (set out t t) e next
      step start e k h = (
        subst (λ (m : ℕ). Uncrossed start (suc e) m) (sym is)
            (start_uncrossed start (suc e) (suc e) i k.nested (omega (arith, h.1, at)) (k.below i (omega (arith, h.1, at)))
            (subst (λ (m : ℕ). Uncrossed start (suc e) m) (sym at) h.0)),
        omega (arith, h.1, falls),
        record {
          own = λ j p q u. mark_at j p q u (ℕ_discrete j t);
          kept = λ j d p q. get_or-set_other out t j t 0 (crossed_differs start j d (suc e) t q (omega arith) h.0) ∙ h.2.kept j d p q;
          others = kept_then h.2.others (kept_set out t t (λ j p q. omega (arith, h.1)));
        },
      )
        where
          is : next ≡ start i
          is = link ∙ ap (λ (m : ℕ). get_or first m 0) (sym at) ∙ k.link i (omega (arith, h.1, at))

          mark_at : (j : ℕ) → next < j → j ≤ e → Uncrossed start (suc e) j → Dec (j ≡ t) → get_or (set out t t) j 0 ≡ j
          mark_at j p q u (yes r) = ap (λ (m : ℕ). get_or (set out t t) m 0) r ∙ get_or-set_same out t t 0 room ∙ sym r
          mark_at j p q u (no r) = get_or-set_other out t j t 0 r ∙ h.2.own j (above (dec_lt t j)) q u
            where
              above : Dec (t < j) → t < j
              above (yes m) = m
              above (no m) = absurd (omega (arith, u i (omega (arith, at, m, r)) (omega (arith, at, h.1)), is))

-- Position 0, which no word crosses, is marked last.
pub marking_end : (first before out : List ℕ) (last t : ℕ) → Marking first before out last t → t ≤ 0 → 0 < length out → (start : ℕ → ℕ) (e : ℕ) →
    Linked start first e last → OwnRoots start before (set out 0 0) e
marking_end first before out last t w l room start e k =
    record {
      own = λ j p q. at j p q (ℕ_discrete j 0);
      kept = λ j d p q. get_or-set_other out 0 j 0 0 (λ r. omega (arith, q.crosses)) ∙ h.kept j d p q;
      others = kept_then h.others (kept_set out 0 0 (λ j p r. omega arith));
    }
  where
    h : MarkedTo start before out e t
    h = (w.holds start e k).2

    at : (j : ℕ) → j ≤ e → Uncrossed start (suc e) j → Dec (j ≡ 0) → get_or (set out 0 0) j 0 ≡ j
    at j p q (yes r) = ap (λ (m : ℕ). get_or (set out 0 0) m 0) r ∙ get_or-set_same out 0 0 0 room ∙ sym r
    at j p q (no r) = get_or-set_other out 0 j 0 0 r ∙ h.own j (omega (arith, r)) p q

-- What holds at each turn of the loop, of both buffers.
pub record Rooting (first past first' past' : List ℕ) (last t : ℕ) : Type 0 where
  pub reached : t ≤ last
  pub in_first : Marking first first first' last t
  pub in_past : Marking first past past' last t

module _ (first past first' past' : List ℕ) (last t : ℕ) (d : Descends first past last) (w : Rooting first past first' past' last t) where
  -- t is marked in both.
  pub rooting_step : (next : ℕ) → 0 < t → next ≡ get_or first' t 0 → Rooting first past (set first' t t) (set past' t t) last next
  rooting_step next l e =
      let k : next ≡ get_or first t 0 = e ∙ w.in_first.intact.kept t (omega arith) in
      let f : next < t = omega (arith, k, link_falls d t l w.reached) in
      record {
        reached = omega (arith, w.reached);
        in_first = marking_step first first first' last t next w.in_first l (omega (arith, w.reached, d.in_first, w.in_first.intact.size)) k f;
        in_past = marking_step first past past' last t next w.in_past l (omega (arith, w.reached, d.in_past, w.in_past.intact.size)) k f;
      }
