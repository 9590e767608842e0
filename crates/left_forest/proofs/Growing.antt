-- The suffix table and the two passes over it, one after the other, write the left forest.
-- Assumes nothing.
use mathlib.Core.Path.{◌≡◌, sym, subst, ◌∙◌}
use mathlib.Core.List.{List, ◌++◌}
use Prim.Native.Nat.{ℕ, suc, ◌-◌, ◌<◌, ◌≤◌}
use native.Mathlib.Omega.{arith}
use Rattle.std.proofs.Common.{ap, ap₂, length-take-le}
use lib.ListN.{length, get_or, take, drop, length-take}
use Rattle.std.specs.Prelude.{true, Ok}
use Rattle.words.specs.Letters.{Letters, order_of}
use Rattle.words.specs.Decided.{Decided, decided_order}
use Rattle.words.specs.LeftForest.{IsLeftForest}
use Rattle.words.specs.Compute.Factorization.{factorization_of, factorization_of_holds}
use Rattle.words.specs.Compute.LeftForest.{left_first_of, left_past_of}
use Rattle.words.specs.Laws.ForestRecords.{left_forest_of_holds}
use Rattle.words.specs.Laws.SpanLyndon.{letters}
use Rattle.words.specs.Laws.LongestEnding.{LongestEnding, longest_ending}
use Rattle.words.specs.Laws.LeftForest.{Uncrossed, Nested, LeftRecords, longest_nested, records_left_forest}
use Rattle.words.specs.Laws.ForestUnique.{left_forest_unique}
use Rattle.answer.specs.declared.Accepted.{Accepted}
use Rattle.answer.specs.declared.Answer.{Answer}
use Rattle.answer.specs.Answers.{accepted_with}
use Rattle.answer.specs.AfterCall.{content_after}
use Rattle.answer.specs.AfterLaws.{content_accepted}
use Rattle.answer.specs.Limits.{Sized, ranked_order, table_length}
use Rattle.checks.specs.Checks.{uses_table}
use Rattle.letters.specs.Ranks.{direction_of, row_in}
use Rattle.letters.specs.RankLaws.{row_in_length}
use Rattle.factors.specs.Answers.{suffix_table_in, suffix_table_ranked_answer}
use Rattle.factors.specs.Results.{AllTabled}
use Rattle.factors.specs.Theorems.{suffix_table_ranked_accepts}
use Rattle.left_forest.specs.Answers.{left_first_in, left_past_in}
use Rattle.left_forest.specs.Links.{start_in, Descends, Linked, Linkable, Crossed, OwnRoots}
use Rattle.left_forest.proofs.SuffixTable.{suffix_table_tabled}

module _ {O : Letters {0, 0} ℕ} (D : Decided O) (x first past table : List ℕ) (in_first : length first ≡ length x) (in_past : length past ≡ length x)
    (sized : Sized (length x)) (w : AllTabled O x past table) where
  table_start_lem : (t : ℕ) → (l : t < length x) → (w.entry t l).start ≡ start_in table t
  table_start_lem t l = omega (arith, (w.entry t l).ends)

  -- The table gives the starts of the longest Lyndon words.
  table_longest : (t : ℕ) → t < length x → LongestEnding O (letters 0 x) (start_in table t) (suc t)
  table_longest t l =
      subst (λ (s : ℕ). LongestEnding O (letters 0 x) s (suc t)) (table_start_lem t l)
      (longest_ending O 0 x t (get_or table t 0) l (w.entry t l))

  nested : Nested (start_in table) (length x)
  nested = longest_nested O (letters 0 x) (length x) (start_in table) table_longest

  whole : length table ≡ length x
  whole = w.others.size ∙ in_past

  -- The table can be read.
  pub table_linkable : Linkable first table
  table_linkable =
      record {
        short = omega (arith, sized.short, whole);
        same = omega (arith, in_first, whole);
        positive = λ t l. omega (arith, (table_longest t (omega (arith, whole))).lyndon.non_empty);
        fits = λ t l. omega (arith, (w.entry t (omega (arith, whole))).ends);
        nested = subst (Nested (start_in table)) (sym whole) nested;
      }

  module _ (first₁ past₁ : List ℕ) (last : ℕ) (c : Crossed first table first₁ past₁ (length first) last) where
    abbrev e : ℕ
    e = length x - 1

    at : suc e ≡ length x
    at = omega (arith, sized.some)

    start_below : (t : ℕ) → t < length x → start_in table t ≤ t
    start_below t l = omega (arith, (table_longest t l).lyndon.non_empty)

    last_start : start_in table e ≡ last
    last_start = c.here e (omega (arith, at, in_first))

    last_below : last ≤ e
    last_below = omega (arith, last_start, start_below e (omega (arith, at)))

    -- The starts of the factors can be marked.
    pub crossed_descends : Descends first₁ past₁ last
    crossed_descends =
        record {
          small = omega (arith, sized.short, last_below, at);
          in_first = omega (arith, in_first, c.in_first.size, last_below, at);
          in_past = omega (arith, whole, c.in_past.size, last_below, at);
          down =
              λ i l.
              omega (arith, c.link i (omega (arith, last_below, at, in_first)), start_below i (omega (arith, last_below, at)));
        }

    crossed_linked : Linked (start_in table) first₁ e last
    crossed_linked =
        record {
          below = λ i l. start_below i (omega (arith, at));
          nested = λ i t l. nested i t (omega (arith, at));
          link = λ i l. c.link i (omega (arith, at, in_first));
          here = last_start;
        }

    module _ (first₂ past₂ : List ℕ)
        (roots_first : (start : ℕ → ℕ) (k : ℕ) → Linked start first₁ k last → OwnRoots start first₁ first₂ k)
        (roots_past : (start : ℕ → ℕ) (k : ℕ) → Linked start first₁ k last → OwnRoots start past₁ past₂ k) where
      own_first : OwnRoots (start_in table) first₁ first₂ e
      own_first = roots_first (start_in table) e crossed_linked

      own_past : OwnRoots (start_in table) past₁ past₂ e
      own_past = roots_past (start_in table) e crossed_linked

      full : (s : ℕ) → s ≡ length x → (j : ℕ) → Uncrossed (start_in table) (length x) j → Uncrossed (start_in table) s j
      full s q j u t p r = u t p (omega arith)

      records : LeftRecords (start_in table) (length x) first₂ past₂
      records =
          record {
            first_cut = λ i d l q. own_first.kept (suc i) d (omega (arith, at)) q ∙ c.link i (omega (arith, q.from, in_first));
            past_cut = λ i d l q. own_past.kept (suc i) d (omega (arith, at)) q ∙ c.closed (suc i) d (omega (arith, in_first)) q;
            first_own = λ j l u. own_first.own j (omega (arith, at)) (full (suc e) at j u);
            past_own = λ j l u. own_past.own j (omega (arith, at)) (full (suc e) at j u);
          }

      -- Both buffers hold the forest.
      pub forest_grown : (first₂ ≡ left_first_of D x (factorization_of D x)) × (past₂ ≡ left_past_of D x (factorization_of D x))
      forest_grown =
          left_forest_unique
          (records_left_forest D 0 x (start_in table) table_longest first₂ past₂ records
          (own_first.others.size ∙ c.in_first.size ∙ in_first) (own_past.others.size ∙ c.in_past.size ∙ whole))
          (left_forest_of_holds D x (factorization_of_holds D x))

-- Where order and table were checked, `suffix_table_ranked` accepts the text, in the first n places of a buffer.
pub ranked_accepts : (order : ℕ) (ranks x past : List ℕ) → Sized (length x) → order ≤ ranked_order →
    (uses_table order ≡ true → length ranks ≡ table_length) → length x ≤ length past → {r : Answer} →
    r ≡ suffix_table_ranked_answer order ranks x (length (take (length x) past)) → r.outcome ≡ Ok (record { count = length x; comparisons = 0 })
ranked_accepts order ranks x past sized named fits in_past answer =
    ap (λ (a : Answer). a.outcome)
    (answer ∙ suffix_table_ranked_accepts x sized (take (length x) past) (omega (arith, length-take-le (length x) past in_past)) order ranks named fits)

-- The same where `suffix_table_ranked` accepts in an order with a rank table, in the first n places of the two buffers: it is the row of the order
-- that has a table and a forest, and the text has its length.
module _ (order : ℕ) (ranks x first past table : List ℕ) (sized : Sized (length x)) (in_first : length x ≤ length first)
    (in_past : length x ≤ length past) {r : Answer} {a : Accepted} (accepts : r.outcome ≡ Ok a)
    (content : table ≡ content_after r (suffix_table_in order ranks x) (take (length x) past)) where
  abbrev row : List ℕ
  row = row_in order ranks x

  abbrev decided : Decided (order_of (direction_of order))
  decided = decided_order (direction_of order)

  same : length row ≡ length x
  same = row_in_length order ranks x

  part : (l : List ℕ) → length x ≤ length l → length (take (length x) l) ≡ length row
  part l h = omega (arith, length-take (length x) l, same)

  w : AllTabled (order_of (direction_of order)) row (take (length x) past) table
  w = suffix_table_tabled order ranks x (take (length x) past) table (omega (arith, part past in_past, same)) accepts content

  row_sized : Sized (length row)
  row_sized = subst Sized (sym same) sized

  pub ranked_linkable : Linkable (take (length x) first) table
  ranked_linkable =
      table_linkable decided row (take (length x) first) (take (length x) past) table (part first in_first) (part past in_past) row_sized w

  module _ (first₁ past₁ : List ℕ) (last : ℕ) (c : Crossed (take (length x) first) table first₁ past₁ (length (take (length x) first)) last) where
    pub ranked_descends : Descends first₁ past₁ last
    ranked_descends =
        crossed_descends decided row (take (length x) first) (take (length x) past) table (part first in_first) (part past in_past) row_sized w
        first₁ past₁ last c

    module _ (first₂ past₂ : List ℕ)
        (roots_first : (start : ℕ → ℕ) (k : ℕ) → Linked start first₁ k last → OwnRoots start first₁ first₂ k)
        (roots_past : (start : ℕ → ℕ) (k : ℕ) → Linked start first₁ k last → OwnRoots start past₁ past₂ k)
        {b : Answer} {count : ℕ} (answer : b ≡ accepted_with count) where
      both : (first₂ ≡ left_first_in order ranks x) × (past₂ ≡ left_past_in order ranks x)
      both =
          forest_grown decided row (take (length x) first) (take (length x) past) table (part first in_first) (part past in_past) row_sized w
          first₁ past₁ last c first₂ past₂ roots_first roots_past

      forest : IsLeftForest (order_of (direction_of order)) row (left_first_in order ranks x) (left_past_in order ranks x)
      forest = left_forest_of_holds decided row (factorization_of_holds decided row)

      pub ranked_first : first₂ ++ drop (length x) first ≡ content_after b (left_first_in order ranks x) first
      ranked_first = content_accepted _ _ answer _ _ _ (ap₂ (λ (l : List ℕ) (n : ℕ). l ++ drop n first) both.0 (sym same ∙ sym forest.first_size))

      pub ranked_past : past₂ ++ drop (length x) past ≡ content_after b (left_past_in order ranks x) past
      ranked_past = content_accepted _ _ answer _ _ _ (ap₂ (λ (l : List ℕ) (n : ℕ). l ++ drop n past) both.1 (sym same ∙ sym forest.past_size))
