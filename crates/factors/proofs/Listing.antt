-- What holds at each turn of the loop that lists the factors.
-- Assumes nothing.
use mathlib.Core.Path.{◌≡◌, refl, sym, ap, subst, ◌∙◌}
use mathlib.Core.List.{List, [], ◌∷◌, ◌++◌, append_assoc, append-nil}
use Prim.Native.Nat.{ℕ, ◌+◌, ◌*◌, ◌<◌, ◌≤◌}
use native.Mathlib.Omega.{arith}
use lib.ListN.{length, set}
use borrow.Author.Tests.{lt-ltb, le-ltb}
use Rattle.words.specs.Letters.{Letters}
use Rattle.words.specs.Decided.{Decided}
use Rattle.words.specs.Compute.Factorization.{factorization_of}
use Rattle.answer.specs.Limits.{max_length}
use Rattle.answer.specs.Content.{Written, TextRoom}
use Rattle.answer.specs.ContentLaws.{written_none, written_one, written_size, written_append, written_as, written_whole}
use Rattle.factors.specs.declared.scan.Stretch.{Stretch}
use Rattle.factors.specs.Duval.{Scanned, FactorList, scan_of, listed_then, duval}
use Rattle.factors.specs.DuvalSteps.{stretch_of, counted, comparisons_of, Bounded, WithinText}
use Rattle.factors.specs.DuvalTurns.{unread, stretch_at, stretch_bounded}
use Rattle.factors.specs.DuvalTurns.{Remaining, OneListed, remaining_all, remaining_step, remaining_none, remaining_counts}
use Rattle.factors.specs.DuvalCount.{duval_below, scan_counted}
use Rattle.factors.specs.DuvalFactorization.{duval_factorization}
use Rattle.factors.specs.Results.{FactorsListed}

module _ {O : Letters {0, 0} ℕ} (D : Decided O) where
  -- `count` factors are listed and stand in the buffer; with what remains from `start` on they are Duval's list.
  pub record Listing (x before out : List ℕ) (count start : ℕ) (s : Scanned) : Type 0 where
    pub listed : List ℕ
    pub rest : FactorList
    pub remaining : Remaining D 0 x start s rest
    pub whole : listed_then listed rest ≡ duval D 0 x
    pub behind : count ≤ start
    pub inside : start ≤ length x
    pub within : WithinText (length x) (stretch_of s)
    pub small : s.period ≤ max_length
    pub content : Written before out 0 count listed

  pub listing_start : (x out : List ℕ) → Listing x out out 0 0 unread
  listing_start x out =
      record {
        listed = [];
        rest = duval D 0 x;
        remaining = remaining_all D 0 x;
        whole = refl;
        behind = omega arith;
        inside = omega arith;
        within = record { positive = omega arith; inside = omega arith };
        small = omega arith;
        content = written_none out 0 (omega arith);
      }

  module _ (x before out : List ℕ) (count start : ℕ) (s : Scanned) (room : TextRoom x before) (w : Listing x before out count start s) where
    -- Comparisons fit 32 bits.
    pub listing_counts : start < length x → s.comparisons ≤ 2 * max_length
    listing_counts l =
        let all : w.rest.comparisons ≡ (duval D 0 x).comparisons = ap (λ (r : FactorList). r.comparisons) w.whole in
        omega (arith, remaining_counts D 0 x start s w.rest w.remaining, all, duval_below D 0 x (omega arith), room.short)

    -- The next factor ends inside the text.
    pub listing_next : start < length x → (t : Scanned) → t ≡ stretch_at D 0 x start s → Bounded (length x) start (stretch_of t)
    listing_next l t e = subst (λ (r : Scanned). Bounded (length x) start (stretch_of r)) (sym e) (stretch_bounded D 0 x start s l w.within)

    -- It lies in the stretch of a new scan, or of the last one.
    pub listing_scanned : start < length x → s.end < start + s.period → (t : Stretch) → ((asked : ℕ) → t ≡ stretch_of (scan_of D 0 x start asked)) →
        {n q : ℕ} → n ≡ length x → q ≡ comparisons_of n start t → counted t (s.comparisons + q) ≡ stretch_at D 0 x start s
    listing_scanned l m t e f g = rw (g, f, stretch_at, lt-ltb s.end (start + s.period) m) (scan_counted D 0 x start s.comparisons l t (e s.comparisons))

    pub listing_kept : start + s.period ≤ s.end → s ≡ stretch_at D 0 x start s
    listing_kept m = rw (stretch_at, le-ltb s.end (start + s.period) m)

    -- The factor at `start` is listed.
    pub listing_step : start < length x → (t : Scanned) → t ≡ stretch_at D 0 x start s →
        Listing x before (set out count start) (count + 1) (start + t.period) t
    listing_step l t e =
        let b : Bounded (length x) start (stretch_of t) = listing_next l t e in
        let f : count < length out = omega (arith, w.behind, room.places, written_size w.content) in
        let o : OneListed D 0 x start t w.rest =
        subst (λ (r : Scanned). OneListed D 0 x start r w.rest) (sym e) (remaining_step D 0 x start s w.rest l w.within w.remaining) in
        record {
          listed = w.listed ++ (start ∷ []);
          rest = o.rest;
          remaining = o.remaining;
          whole =
              ap (λ (c : List ℕ). record { factors = c; comparisons = o.rest.comparisons }) (append_assoc w.listed (start ∷ []) o.rest.factors) ∙
              ap (listed_then w.listed) (sym o.first) ∙
              w.whole;
          behind = omega (arith, w.behind, b.positive);
          inside = omega (arith, b.whole, b.inside);
          within = record { positive = b.positive; inside = b.inside };
          small = omega (arith, b.whole, b.inside, room.short);
          content = written_append w.content (written_one out count start f);
        }

    -- All factors are listed.
    pub listing_end : length x ≤ start → FactorsListed D x before out (record { count = count; comparisons = s.comparisons })
    listing_end l =
        let all : listed_then w.listed (record { factors = []; comparisons = s.comparisons }) ≡ duval D 0 x =
        ap (listed_then w.listed) (sym (remaining_none D 0 x start s w.rest l w.within w.remaining)) ∙ w.whole in
        let e : w.listed ≡ factorization_of D x =
        sym (append-nil w.listed) ∙ ap (λ (r : FactorList). r.factors) all ∙ duval_factorization D 0 x in
        record {
          counted = omega (arith, w.content.past, ap length e);
          compared = ap (λ (r : FactorList). r.comparisons) all;
          content = written_whole (written_as w.content e);
        }
