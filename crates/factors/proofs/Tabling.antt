-- What holds at each turn of the loop that fills the suffix table during a scan.
-- Assumes nothing.
use mathlib.Core.Path.{◌≡◌, sym, subst, ◌∙◌}
use mathlib.Core.List.{List}
use Prim.Native.Nat.{ℕ, suc, ◌+◌, ◌-◌, ◌<◌, ◌≤◌}
use native.Mathlib.Omega.{arith}
use native.Mathlib.Decide.{ℕ_discrete}
use lib.ListN.{length, get_or, set, length-set}
use lib.Seq.{get_or-set_same, get_or-set_other}
use Rattle.std.specs.declared.cmp.Ordering.{Ordering}
use Rattle.std.specs.declared.cmp.Ordering.TheVariants.{Equal, Greater}
use Rattle.words.specs.Letters.{Letters}
use Rattle.words.specs.Decided as words
use Rattle.words.specs.SuffixTable.{LongestTo, IsSuffixTable}
use Rattle.words.specs.Compute.SuffixTable.{suffix_table_of, suffix_table_of_holds}
use Rattle.words.specs.Laws.Unique.{longest_to_unique}
use Rattle.words.specs.Laws.SpanLyndon.{letters}
use Rattle.words.specs.Laws.Repetition.{Repetition, letter_lyndon, repetition_start, repetition_longer, repetition_extended, lyndon_extended}
use Rattle.words.specs.Laws.LowestSuffix.{Lowest, lowest_next}
use Rattle.words.specs.Laws.LongestEnding.{LongestEnding, lowest_longest, repetition_longest, longest_ending, ending_longest}
use Rattle.answer.specs.AfterCall.{written}
use Rattle.answer.specs.Content.{Kept, From}
use Rattle.answer.specs.ContentLaws.{kept_all, kept_then, kept_set, written_places}
use Rattle.letters.specs.Compared.{comparison_of}
use Rattle.letters.proofs.Answers.{is_same, is_above}
use Rattle.factors.specs.declared.scan.Stretch.{Stretch}
use Rattle.factors.specs.DuvalSteps.{answer_at}
use Rattle.factors.specs.DuvalFactorization.{stopped_next, stopped_rest}
use Rattle.answer.specs.Content.{TextRoom}
use Rattle.factors.specs.Results.{Tabled, AllTabled, Startable, Covered, TableFilled}

module _ (O : Letters {0, 0} ℕ) where
  -- The scan from `start` has read s, and the entries up to its end are written.
  pub record Filling (x before out : List ℕ) (start : ℕ) (s : Stretch) : Type 0 where
    pub repetition : Repetition O (letters 0 x) start s.period s.end
    pub inside : s.end ≤ length x
    pub room : TextRoom x out
    pub table : Tabled O x before out s.end

  -- A store keeps the room.
  room_set : (x out : List ℕ) (i v : ℕ) → TextRoom x out → TextRoom x (set out i v)
  room_set x out i v room = record { short = room.short; places = omega (arith, length-set out i v, room.places) }

  -- One more entry.
  pub tabled_more : (x before out : List ℕ) (e v : ℕ) → Tabled O x before out e → e < length x → e < length out → LongestTo O x e v →
      Tabled O x before (set out e v) (e + 1)
  tabled_more x before out e v w l m h =
      record {
        entry = λ t q. at t q (ℕ_discrete t e);
        others = kept_then w.others (kept_set out e v (λ t q r. omega arith));
      }
    where
      at : (t : ℕ) → t < e + 1 → Dec (t ≡ e) → LongestTo O x t (get_or (set out e v) t 0)
      at t q (yes r) =
          subst (λ (k : ℕ). LongestTo O x k (get_or (set out e v) k 0)) (sym r)
          (subst (λ (k : ℕ). LongestTo O x e k) (sym (get_or-set_same out e v 0 m)) h)
      at t q (no r) =
          subst (λ (k : ℕ). LongestTo O x t k) (sym (get_or-set_other out e t v 0 r)) (w.entry t (omega (arith, r)))

  -- The entry of the position where the scan begins.
  pub filling_start : (x out : List ℕ) (start : ℕ) → TextRoom x out → start < length x → Startable O x out start →
      Filling x (set out start 1) (set out start 1) start (record { period = 1; end = start + 1 })
  filling_start x out start room l s =
      let e : suc start ≡ start + 1 = omega arith in
      let first : Tabled O x out (set out start 1) (start + 1) =
      tabled_more x out out start 1 (record { entry = s.entry; others = kept_all out }) l
      (omega (arith, room.places))
      (ending_longest O 0 x start 1 start l (omega arith)
      (lowest_longest O (letters 0 x) (length x) start s.lowest (suc start) l
      (letter_lyndon O (letters 0 x) start))) in
      record {
        repetition = subst (λ (k : ℕ). Repetition O (letters 0 x) start 1 k) e (repetition_start O (letters 0 x) start);
        inside = omega arith;
        room = room_set x out start 1 room;
        table = record { entry = first.entry; others = kept_all (set out start 1) };
      }

  module _ (x before out : List ℕ) (start : ℕ) (s : Stretch) (w : Filling x before out start s) where
    back : s.end - s.period + s.period ≡ s.end
    back = omega (arith, w.repetition.whole)

    module _ (D : words.Decided O) (l : s.end < length x) {r : Ordering} (q : r ≡ comparison_of (answer_at D 0 x s.period s.end)) where
      -- What an answer says of the letter at the end and the one a period before it.
      abbrev Said : words.Comparison → Type 0
      Said c = words.Means O c (letters 0 x s.end) (letters 0 x (s.end - s.period))

      said : (c : words.Comparison) → answer_at D 0 x s.period s.end ≡ c → Said c
      said c e = subst Said e (D.right (letters 0 x s.end) (letters 0 x (s.end - s.period)))

      module _ (lowest : Lowest O (letters 0 x) (length x) start) where
        -- An equal letter continues the period: the entry is that of the copy before.
        pub filling_same : r ≡ Equal → Filling x before (set out s.end (get_or out (s.end - s.period) 0)) start (record { period = s.period; end = s.end + 1 })
        filling_same e =
            let m : Said words.same = said words.same (is_same (answer_at D 0 x s.period s.end) (sym q ∙ e)) in
            let o : suc s.end ≡ s.end + 1 = omega arith in
            let again : Repetition O (letters 0 x) start s.period (suc s.end) =
            repetition_longer O (letters 0 x) start s.period s.end w.repetition (s.end - s.period) back (sym m.lower) in
            let i : ℕ = s.end - s.period in
            let before_it : LongestTo O x i (get_or out i 0) = w.table.entry i (omega (arith, w.repetition.whole, w.repetition.lyndon.non_empty)) in
            let c : LongestEnding O (letters 0 x) (before_it.start + s.period) (suc i + s.period) =
            repetition_longest O (letters 0 x) (length x) start lowest s.period (suc s.end) again l before_it.start (suc i)
            (omega (arith, w.repetition.whole)) (omega (arith, back)) (longest_ending O 0 x i (get_or out i 0) (omega arith) before_it) in
            let f : suc i + s.period ≡ suc s.end = omega (arith, back) in
            record {
              repetition = subst (λ (k : ℕ). Repetition O (letters 0 x) start s.period k) o again;
              inside = omega arith;
              room = room_set x out s.end (get_or out i 0) w.room;
              table =
                  tabled_more x before out s.end (get_or out i 0) w.table l (omega (arith, w.room.places))
                  (ending_longest O 0 x s.end (get_or out i 0) (before_it.start + s.period) l (omega (arith, before_it.ends, back))
                  (subst (λ (k : ℕ). LongestEnding O (letters 0 x) (before_it.start + s.period) k) f c));
            }

        -- A greater letter makes all that was read a Lyndon word.
        pub filling_above : r ≡ Greater →
            Filling x before (set out s.end (s.end + 1 - start)) start (record { period = s.end + 1 - start; end = s.end + 1 })
        filling_above e =
            let m : Said words.above = said words.above (is_above (answer_at D 0 x s.period s.end) (sym q ∙ e)) in
            let o : suc s.end ≡ s.end + 1 = omega arith in
            let f : start + (s.end + 1 - start) ≡ suc s.end = omega (arith, w.repetition.whole) in
            record {
              repetition =
                  subst (λ (k : ℕ). Repetition O (letters 0 x) start (s.end + 1 - start) k) o
                  (repetition_extended O (letters 0 x) start s.period s.end w.repetition (s.end - s.period) (s.end + 1 - start) back m f);
              inside = omega arith;
              room = room_set x out s.end (s.end + 1 - start) w.room;
              table =
                  tabled_more x before out s.end (s.end + 1 - start) w.table l (omega (arith, w.room.places))
                  (ending_longest O 0 x s.end (s.end + 1 - start) start l f
                  (lowest_longest O (letters 0 x) (length x) start lowest (suc s.end) l
                  (lyndon_extended O (letters 0 x) start s.period s.end w.repetition (s.end - s.period) back m)));
            }

  -- Where it holds one, nothing is left to write.
  pub covered_filled : (x out : List ℕ) (start : ℕ) (s : Stretch) → Covered O x out start s → start + s.period ≤ s.end → TableFilled O x out out start s
  covered_filled x out start s w l =
      record { stopped = w.remains l; table = record { entry = w.entry; others = kept_all out } }

  -- What holds at each turn of the loop over the factors.
  pub record Covering (x before out : List ℕ) (start : ℕ) (s : Stretch) : Type 0 where
    pub room : TextRoom x out
    pub covered : Covered O x out start s
    pub others : Kept (From (length x)) before out

  module _ (x before out after : List ℕ) (start : ℕ) (s r : Stretch) (w : Covering x before out start s)
      (f : TableFilled O x out after start r) where
    -- The factor at `start` is done.
    pub covering_step : Covering x before after (start + r.period) r
    covering_step =
        record {
          room = record { short = w.room.short; places = omega (arith, w.room.places, f.table.others.size) };
          covered =
              record {
                lowest =
                    lowest_next O (letters 0 x) (length x) start (start + r.period) w.covered.lowest
                    (stopped_next O (letters 0 x) (length x) start r f.stopped);
                reached = f.stopped.repetition.whole;
                inside = f.stopped.inside;
                small = omega (arith, f.stopped.repetition.whole, f.stopped.inside, w.room.short);
                entry = f.table.entry;
                remains = stopped_rest O (letters 0 x) (length x) start r f.stopped;
              };
          others = kept_then w.others f.table.others;
        }

  -- A buffer that holds all entries of the suffix table has the table written into it.
  pub tabled_written : (D : words.Decided O) (x before after : List ℕ) → TextRoom x before → AllTabled O x before after →
      after ≡ written (suffix_table_of D x) before
  tabled_written D x before after room w =
      let t : IsSuffixTable O x (suffix_table_of D x) = suffix_table_of_holds D x in
      written_places (suffix_table_of D x) (length x) before after t.size room.places w.others
      (λ j q. longest_to_unique (w.entry j q) (t.entry j q))
