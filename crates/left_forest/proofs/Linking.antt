-- The passes of the left forest: what holds at each turn of their loops.
-- Assumes nothing.
use mathlib.Core.Path.{◌≡◌, sym, ap, subst, ◌∙◌}
use mathlib.Core.List.{List}
use Prim.Native.Nat.{ℕ, suc, ◌+◌, ◌-◌, ◌<◌, ◌≤◌}
use native.Mathlib.Omega.{arith}
use native.Mathlib.Decide.{dec_lt, ℕ_discrete}
use lib.ListN.{length, get_or, set}
use lib.Seq.{get_or-set_same, get_or-set_other}
use Rattle.words.specs.Laws.LeftForest.{Uncrossed, FirstCrossing, start_uncrossed}
use Rattle.answer.specs.Content.{Kept, From}
use Rattle.answer.specs.ContentLaws.{kept_then, kept_where, kept_set}
use Rattle.left_forest.specs.Links.{start_in, Descends, Linked, Closes, Linkable, Crossed}

-- A position that a word before e crosses is not uncrossed up to e.
pub crossed_differs : (start : ℕ → ℕ) (j d e t : ℕ) → FirstCrossing start j d → d < e → Uncrossed start e t → ¬ (j ≡ t)
crossed_differs start j d e t w l h q = omega (arith, h d (omega (arith, w.from)) l, w.crosses)

-- Closing the positions that the word ending at e crosses has come down to t: no word that ends before e crosses t.
pub record ClosedTo (start : ℕ → ℕ) (before out : List ℕ) (e t : ℕ) : Type 0 where
  pub uncrossed : Uncrossed start e t
  pub closed : (j : ℕ) → t < j → FirstCrossing start j e → get_or out j 0 ≡ suc e
  pub done : (j d : ℕ) → d < e → FirstCrossing start j d → get_or out j 0 ≡ get_or before j 0

-- What holds at each turn of the loop that closes them.
pub record Closing (first before out : List ℕ) (e last t : ℕ) : Type 0 where
  pub others : Kept (From (suc e)) before out
  pub reached : t ≤ e
  pub holds : (start : ℕ → ℕ) → Linked start first e last → ClosedTo start before out e t

-- The link at t leads down.
pub link_falls : {first past : List ℕ} {e : ℕ} → Descends first past e → (t : ℕ) → 0 < t → t ≤ e → get_or first t 0 < t
link_falls {first} d t l h =
    let i : ℕ = t - 1 in
    let q : suc i ≡ t = omega arith in
    omega (arith, d.down i (omega arith), ap (λ (k : ℕ). get_or first k 0) q)

module _ (first before out : List ℕ) (e last t : ℕ) (d : Descends first before e) (w : Closing first before out e last t) where
  -- t is closed, and the next position that no word before e crosses is the link's.
  pub closing_step : (next : ℕ) → last < t → next ≡ get_or first t 0 → Closing first before (set out t (e + 1)) e last next
  closing_step next l is =
      record {
        others = kept_then w.others (kept_set out t (e + 1) (λ j p r. omega (arith, w.reached)));
        reached = omega (arith, is, link_falls d t (omega arith) w.reached, w.reached);
        holds = λ start k. step start k (w.holds start k);
      }
    where
      i : ℕ
      i = t - 1

      at : suc i ≡ t
      at = omega (arith, l)

      step : (start : ℕ → ℕ) → Linked start first e last → ClosedTo start before out e t → ClosedTo start before (set out t (e + 1)) e next
      step start k h =
          record {
            uncrossed =
                subst (λ (m : ℕ). Uncrossed start e m) (sym link)
                (start_uncrossed start (suc e) e i k.nested (omega (arith, w.reached, at)) (k.below i (omega (arith, w.reached, at)))
                (subst (λ (m : ℕ). Uncrossed start e m) (sym at) h.uncrossed));
            closed = λ j p q. close_at j p q (ℕ_discrete j t);
            done = λ j m p q. get_or-set_other out t j (e + 1) 0 (crossed_differs start j m e t q p h.uncrossed) ∙ h.done j m p q;
          }
        where
          link : next ≡ start i
          link = is ∙ ap (λ (m : ℕ). get_or first m 0) (sym at) ∙ k.link i (omega (arith, w.reached, at))

          close_at : (j : ℕ) → next < j → FirstCrossing start j e → Dec (j ≡ t) → get_or (set out t (e + 1)) j 0 ≡ suc e
          close_at j p q (yes r) =
              ap (λ (m : ℕ). get_or (set out t (e + 1)) m 0) r ∙
              get_or-set_same out t (e + 1) 0 (omega (arith, w.reached, w.others.size, d.in_past)) ∙ omega arith
          close_at j p q (no r) = get_or-set_other out t j (e + 1) 0 r ∙ h.closed j (above (dec_lt t j)) q
            where
              above : Dec (t < j) → t < j
              above (yes m) = m
              above (no m) = absurd (omega (arith, q.earlier i (omega (arith, at, m, r)) (omega (arith, at, w.reached)), link))

  -- All are closed.
  pub closing_end : t ≤ last → (start : ℕ → ℕ) → Linked start first e last → Closes start before out e
  closing_end l start k =
      let h : ClosedTo start before out e t = w.holds start k in
      record {
        closed = λ j q. h.closed j (omega (arith, q.crosses, k.here)) q;
        done = h.done;
        others = w.others;
      }

-- A word starts before it ends.
start_at_most : (before table : List ℕ) → Linkable before table → (i : ℕ) → i < length before → start_in table i ≤ i
start_at_most before table k i l = let q : i < length table = omega (arith, k.same) in omega (arith, k.positive i q, k.fits i q)

module _ (before table first past : List ℕ) (e last : ℕ) (k : Linkable before table) (w : Crossed before table first past e last) (l : e < length before) where
  in_buffer : e < length first
  in_buffer = omega (arith, w.in_first.size)

  -- FIRST with the start of the word that ends before e.
  link_at : (i : ℕ) → i < e → get_or (set first e last) (suc i) 0 ≡ start_in table i
  link_at i p = go (ℕ_discrete (suc i) e)
    where
      go : Dec (suc i ≡ e) → get_or (set first e last) (suc i) 0 ≡ start_in table i
      go (yes q) =
          ap (λ (m : ℕ). get_or (set first e last) m 0) q ∙ get_or-set_same first e last 0 in_buffer ∙ sym (w.here i q)
      go (no q) = get_or-set_other first e (suc i) last 0 q ∙ w.link i (omega arith)

  -- h is the entry.
  module _ (h : ℕ) (is : h ≡ get_or past e 0) where
    start_here : start_in table e ≡ e + 1 - h
    start_here = omega (arith, w.in_past.kept e (omega arith))

    reading_linked : Linked (start_in table) (set first e last) e (e + 1 - h)
    reading_linked =
        record {
          below = λ i p. start_at_most before table k i (omega arith);
          nested = λ i t p. k.nested i t (omega (arith, k.same));
          link = link_at;
          here = start_here;
        }

    -- The word that ends at e has been read.
    pub crossed_step : (past' : List ℕ) →
        ((start : ℕ → ℕ) → Linked start (set first e last) e (e + 1 - h) → Closes start past past' e) →
        Crossed before table (set first e last) past' (e + 1) (e + 1 - h)
    crossed_step past' f =
        let c : Closes (start_in table) past past' e = f (start_in table) reading_linked in
        record {
          small = omega (arith, start_here, start_at_most before table k e l);
          link = λ i p. link_at i (omega arith);
          here =
              λ i p.
              let q : e ≡ i = omega arith in
              subst (λ (m : ℕ). start_in table m ≡ e + 1 - h) q start_here;
          closed = λ j d p q. close_at c j d p q (ℕ_discrete d e);
          in_first = kept_then (kept_where w.in_first (λ t p. omega arith)) (kept_set first e last (λ t p q. omega arith));
          in_past = kept_then (kept_where w.in_past (λ t p. omega arith)) (kept_where c.others (λ t p. omega arith));
        }
      where
        close_at : Closes (start_in table) past past' e → (j d : ℕ) → d < e + 1 → FirstCrossing (start_in table) j d → Dec (d ≡ e) →
            get_or past' j 0 ≡ suc d
        close_at c j d p q (yes r) = c.closed j (subst (λ (m : ℕ). FirstCrossing (start_in table) j m) r q) ∙ ap suc (sym r)
        close_at c j d p q (no r) = c.done j d (omega arith) q ∙ w.closed j d (omega arith) q
