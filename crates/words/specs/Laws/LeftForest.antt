-- The left forest from the longest Lyndon words by their ends: before j the cut is of the span from the start of the longest Lyndon word
-- that ends there, up to the end of the first longest one behind j that starts before j.
-- Assumes nothing.
use Rattle.std.specs.Prelude.{◌≡◌, refl, List, ℕ, zero, suc, ◌+◌, ◌-◌, ◌<◌, ◌≤◌, length, get_or}
use Rattle.std.proofs.Common.{sym, subst, ◌∙◌, arith}
use Rattle.std.proofs.Math.Decide.{dec_lt}
use Rattle.words.specs.Letters.{Letters}
use Rattle.words.specs.Decided.{Decided}
use Rattle.words.specs.CutTree.{CutTree, letter, cut, Recorded, Tree}
use Rattle.words.specs.LeftForest.{LeftCut, IsLeftForest}
use Rattle.words.specs.Compute.Factorization.{factorization_of, factorization_of_holds}
use Rattle.words.specs.Compute.LeftForest.{left_cut_at}
use Rattle.words.specs.Laws.ForestRecords.{greatest_left_cuts}
use Rattle.words.specs.Compute.Lyndon.{lyndon_test}
use Rattle.words.specs.Laws.Position.{SpanLyndon}
use Rattle.words.specs.Laws.SpanLyndon.{letters, lyndon_span, span_lyndon}
use Rattle.words.specs.Laws.NextSmaller.{next_lyndon}
use Rattle.words.specs.Laws.Compared.{decided_compared}
use Rattle.words.specs.Laws.FactorChain.{factorization_chain}
use Rattle.words.specs.Laws.LowestSuffix.{FactorSpan, lowest_first, chain_factor}
use Rattle.words.specs.Laws.LongestEnding.{LongestEnding, lyndon_overlap, ending_inside, lowest_reached}

-- None of the longest Lyndon words that end at a position from j on, before e, starts before j. Position t's starts at start t.
abbrev pub Uncrossed : (ℕ → ℕ) → ℕ → ℕ → Type 0
Uncrossed start e j = (t : ℕ) → j ≤ t → t < e → j ≤ start t

-- The one that ends at e is the first that does.
pub record FirstCrossing (start : ℕ → ℕ) (j e : ℕ) : Type 0 where
  pub from : j ≤ e
  pub crosses : start e < j
  pub earlier : Uncrossed start e j

-- Of the longest Lyndon words, one that ends inside another does not start before it.
abbrev pub Nested : (ℕ → ℕ) → ℕ → Type 0
Nested start n = (i t : ℕ) → i < n → t ≤ i → start i ≤ t → start i ≤ start t

-- Where none crosses i + 1 before e, none crosses the start of the one that ends at i.
pub start_uncrossed : (start : ℕ → ℕ) (n e i : ℕ) → Nested start n → i < n → start i ≤ i → Uncrossed start e (suc i) → Uncrossed start e (start i)
start_uncrossed start n e i nested l b h t p q = go (dec_lt i t)
  where
    go : Dec (i < t) → start i ≤ start t
    go (yes k) = omega (arith, h t k q)
    go (no k) = nested i t l (omega arith) p

-- A span that the left forest cuts: no longest Lyndon word ends inside it and starts before it, and none that ends with it starts in it.
record Node (start : ℕ → ℕ) (n a b : ℕ) : Type 0 where
  order : a < b
  inside : b ≤ n
  whole : (t : ℕ) → suc t ≡ b → start t ≤ a
  inner : (t : ℕ) → a ≤ t → suc t < b → a ≤ start t

-- The cut of such a span before c: what the two lists record of it, and that both parts are such spans.
record NodeCut (start : ℕ → ℕ) (n a c b : ℕ) : Type 0 where
  begins : (i : ℕ) → suc i ≡ c → start i ≡ a
  crossing : (t : ℕ) → suc t ≡ b → FirstCrossing start c t
  left : Node start n a c
  right : Node start n c b

module _ {ℓ κ} {A : Type ℓ} (O : Letters {ℓ, κ} A) (x : ℕ → A) (n : ℕ) (start : ℕ → ℕ) (longest : (t : ℕ) → t < n → LongestEnding O x (start t) (suc t)) where
  -- The longest Lyndon words are nested.
  pub longest_nested : Nested start n
  longest_nested i t l p q =
      ending_inside O x (start i) (suc i) (start t) (suc t) (longest i l) (longest t (omega arith)).lyndon (omega arith) (omega arith)

  -- A Lyndon word is no longer than the longest one with its end.
  start_before : (a t : ℕ) → t < n → SpanLyndon O x a (suc t) → start t ≤ a
  start_before a t l w = go (dec_lt a (start t))
    where
      go : Dec (a < start t) → start t ≤ a
      go (yes k) = absurd ((longest t l).longest a k w)
      go (no k) = omega arith

  -- No word crosses the start of a factor.
  pub factor_uncrossed : (a b : ℕ) → FactorSpan O x n a b → Uncrossed start n a
  factor_uncrossed a b f t p q = lowest_reached O x n a f.lowest (start t) (suc t) (omega arith) q (longest t q)

  factor_node : (a b : ℕ) → FactorSpan O x n a b → Node start n a b
  factor_node a b f =
      record {
        order = f.next.after;
        inside = f.next.inside;
        whole =
            λ t e.
            start_before a t (omega (arith, f.next.inside))
            (subst (λ (c : ℕ). SpanLyndon O x a c) (sym e) (next_lyndon O x n a b f.next));
        inner = λ t p q. factor_uncrossed a b f t p (omega (arith, f.next.inside));
      }

  module _ (a c b : ℕ) (w : Node start n a b) (p : a < c) (q : c < b) (u : SpanLyndon O x a c)
      (last : (k : ℕ) → c < k → k < b → ¬ SpanLyndon O x a k) where
    -- Behind the longest proper Lyndon prefix no word that starts in it ends, before the end of the whole.
    right_inner : (t : ℕ) → c ≤ t → suc t < b → c ≤ start t
    right_inner t l m = go (dec_lt (start t) c) (dec_lt a (start t))
      where
        here : LongestEnding O x (start t) (suc t)
        here = longest t (omega (arith, w.inside))

        reach : a ≤ start t
        reach = w.inner t (omega arith) m

        go : Dec (start t < c) → Dec (a < start t) → c ≤ start t
        go (no k) r = omega arith
        go (yes k) (yes r) =
            absurd (last (suc t) (omega arith) m (lyndon_overlap O x a (start t) c (suc t) u here.lyndon r k (omega arith)))
        go (yes k) (no r) =
            let e : start t ≡ a = omega (arith, reach, r) in
            absurd (last (suc t) (omega arith) m (subst (λ (k : ℕ). SpanLyndon O x k (suc t)) e here.lyndon))

    -- What ends before the cut starts with the whole.
    cut_start : (i : ℕ) → suc i ≡ c → start i ≡ a
    cut_start i e =
        let l : start i ≤ a =
        start_before a i (omega (arith, w.inside)) (subst (λ (k : ℕ). SpanLyndon O x a k) (sym e) u) in
        omega (arith, w.inner i (omega arith) (omega arith))

    -- The cut of a node, and the nodes on its two sides.
    node_cut : NodeCut start n a c b
    node_cut =
        record {
          begins = cut_start;
          crossing =
              λ t e.
              record { from = omega arith; crosses = omega (arith, w.whole t e); earlier = λ s l m. right_inner s l (omega arith) };
          left =
              record {
                order = p;
                inside = omega (arith, w.inside);
                whole = λ t e. omega (arith, cut_start t e);
                inner = λ t l m. w.inner t l (omega arith);
              };
          right = record { order = q; inside = w.inside; whole = λ t e. omega (arith, w.whole t e); inner = right_inner };
        }

-- FIRST and PAST hold what the starts of the longest Lyndon words give.
pub record LeftRecords (start : ℕ → ℕ) (n : ℕ) (first past : List ℕ) : Type 0 where
  pub first_cut : (i e : ℕ) → e < n → FirstCrossing start (suc i) e → get_or first (suc i) 0 ≡ start i
  pub past_cut : (i e : ℕ) → e < n → FirstCrossing start (suc i) e → get_or past (suc i) 0 ≡ suc e
  pub first_own : (j : ℕ) → j < n → Uncrossed start n j → get_or first j 0 ≡ j
  pub past_own : (j : ℕ) → j < n → Uncrossed start n j → get_or past j 0 ≡ j

module _ {ℓ κ} {A : Type ℓ} {O : Letters {ℓ, κ} A} (D : Decided O) (z : A) (x : List A) (start : ℕ → ℕ)
    (longest : (t : ℕ) → t < length x → LongestEnding O (letters z x) (start t) (suc t)) (first past : List ℕ)
    (records : LeftRecords start (length x) first past) where
  node_tree : (fuel a b : ℕ) → b ≤ a + fuel → Node start (length x) a b → (t : CutTree (LeftCut O x) a b) × Recorded first past t
  node_tree zero a b f w = absurd (omega (arith, w.order))
  node_tree (suc fuel) a b f w = go (dec_lt (suc a) b) (node_tree fuel)
    where
      go : Dec (suc a < b) →
          ((a b : ℕ) → b ≤ a + fuel → Node start (length x) a b → (t : CutTree (LeftCut O x) a b) × Recorded first past t) →
          (t : CutTree (LeftCut O x) a b) × Recorded first past t
      go (no l) rest =
          let e : b ≡ suc a = omega (arith, l, w.order) in
          (letter e, tt)
      go (yes l) rest = at (left_cut_at D x a b) ((greatest_left_cuts (lyndon_test D x)).right a b l w.inside)
        where
          at : (c : ℕ) → LeftCut O x a c b → (t : CutTree (LeftCut O x) a b) × Recorded first past t
          at zero k = absurd (omega (arith, k.non_empty))
          at (suc i) k =
              let c : ℕ = suc i in
              let u : SpanLyndon O (letters z x) a c =
              lyndon_span O z x a c (omega (arith, k.proper, w.inside)) k.lyndon in
              let last : (m : ℕ) → c < m → m < b → ¬ SpanLyndon O (letters z x) a m =
              λ m p q v. k.longest m p q (span_lyndon O z x a m (omega (arith, w.inside)) v) in
              let e : ℕ = b - 1 in
              let h : suc e ≡ b = omega arith in
              let m : NodeCut start (length x) a c b =
              node_cut O (letters z x) (length x) start longest a c b w k.non_empty k.proper u last in
              let inside : e < length x = omega (arith, w.inside) in
              let s = rest a c (omega (arith, k.proper)) m.left in
              let t = rest c b (omega (arith, k.non_empty)) m.right in (
                cut c k s.0 t.0,
                (
                  records.first_cut i e inside (m.crossing e h) ∙ m.begins i refl,
                  records.past_cut i e inside (m.crossing e h) ∙ h,
                  s.1,
                  t.1,
                ),
              )

  factor_tree : (a b : ℕ) → FactorSpan O (letters z x) (length x) a b → Tree (LeftCut O x) first past a b
  factor_tree a b f =
      let free : Uncrossed start (length x) a = factor_uncrossed O (letters z x) (length x) start longest a b f in
      let inside : a < length x = omega (arith, f.next.after, f.next.inside) in
      let t = node_tree (b - a) a b (omega (arith, f.next.after)) (factor_node O (letters z x) (length x) start longest a b f) in
      record {
        own_first = records.first_own a inside free;
        own_past = records.past_own a inside free;
        tree = t.0;
        recorded = t.1;
      }

  -- Such lists are the left forest.
  pub records_left_forest : length first ≡ length x → length past ≡ length x → IsLeftForest O x first past
  records_left_forest p q =
      record {
        first_size = p;
        past_size = q;
        starts = factorization_of D x;
        factorization = factorization_of_holds D x;
        factor =
            λ k l.
            factor_tree (get_or (factorization_of D x) k 0) (get_or (factorization_of D x) (suc k) (length x))
            (chain_factor O (letters z x) (length x) 0 (factorization_of D x) (lowest_first O (letters z x) (length x))
            (factorization_chain O z x (decided_compared D (letters z x) (length x)) (factorization_of D x) (factorization_of_holds D x)) k l);
      }
