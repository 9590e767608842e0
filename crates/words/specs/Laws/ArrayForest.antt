-- The right forest read off an array is the right forest of every text that has it, and it determines the array. No comparison is decided:
-- each cut's Lyndon word is given by the array, and that no longer suffix is one is a negation.
-- Assumes nothing.
use Rattle.std.specs.Prelude.{◌≡◌, Bool, List, [], ◌∷◌, ℕ, zero, suc, ◌+◌, ◌-◌, ◌<◌, ◌≤◌, length, get_or, T, eqb}
use Rattle.std.proofs.Common.{sym, ap, subst, ◌∙◌, arith, zero-add, ext_get_or, eqb→eq}
use Rattle.std.proofs.Math.Decide.{dec_lt, ℕ_discrete}
use Rattle.std.proofs.Math.Dec.{eqb_refl}
use Rattle.words.specs.Letters.{Letters}
use Rattle.words.specs.Word.{span}
use Rattle.words.specs.Lyndon.{Lyndon}
use Rattle.words.specs.LyndonArray.{IsLyndonArray}
use Rattle.words.specs.CutTree.{CutTree, letter, cut, Recorded, Tree}
use Rattle.words.specs.RightForest.{RightCut, IsRightForest}
use Rattle.words.specs.ValidArray.{Valid}
use Rattle.words.specs.ArrayForest.{end_of, first_for, past_for, forest_first, forest_past}
use Rattle.words.specs.ArrayFactors.{factor_starts}
use Rattle.words.specs.Compute.Search.{least_from, LeastFrom, least_from_holds, least_at_most}
use Rattle.words.specs.Laws.Tabulate.{length-tabulate, get_or-tabulate}
use Rattle.words.specs.Laws.ValidSpans.{Unheld, innermost_is, unheld_is, own_unheld, past_of_start, past_of_inner, end_after, end_inside, ends_nest, end_unheld}
use Rattle.words.specs.Laws.ArrayValid.{array_valid}
use Rattle.words.specs.Laws.ArrayFactors.{EndChain, starts_ends, array_factorization}

pub length-forest_first : (a : List ℕ) → length (forest_first a) ≡ length a
length-forest_first a = length-tabulate (first_for a) 0 (length a)

pub length-forest_past : (a : List ℕ) → length (forest_past a) ≡ length a
length-forest_past a = length-tabulate (past_for a) 0 (length a)

pub get_or-forest_first : (a : List ℕ) (j : ℕ) → j < length a → get_or (forest_first a) j 0 ≡ first_for a j
get_or-forest_first a j h = rw (get_or-tabulate (first_for a) 0 (length a) j h, zero-add)

pub get_or-forest_past : (a : List ℕ) (j : ℕ) → j < length a → get_or (forest_past a) j 0 ≡ past_for a j
get_or-forest_past a j h = rw (get_or-tabulate (past_for a) 0 (length a) j h, zero-add)

-- A span that the forest cuts: its first position's span reaches its end, and no span that starts inside it ends past it.
record Node (a : List ℕ) (s e : ℕ) : Type 0 where
  start : s < e
  inside : e ≤ length a
  reaches : e ≤ end_of a s
  within : (k : ℕ) → s < k → k < e → end_of a k ≤ e

-- c is the first position inside the node whose span ends with it.
record FirstToEnd (a : List ℕ) (s c e : ℕ) : Type 0 where
  after : s < c
  before : c < e
  ends : end_of a c ≡ e
  earlier : (k : ℕ) → s < k → k < c → ¬ (end_of a k ≡ e)

module _ (a : List ℕ) (v : Valid a) where
  -- A node of two letters or more has such a position: its last letter's span ends with it.
  first_to_end : (s e : ℕ) → Node a s e → suc s < e → (c : ℕ) × FirstToEnd a s c e
  first_to_end s zero w h = absurd (omega arith)
  first_to_end s (suc l) w h =
      let p : ℕ → Bool = λ k. eqb (end_of a k) (suc l) in
      let q : end_of a l ≡ suc l = omega (arith, w.within l (omega arith) (omega arith), end_after a v l w.inside) in
      let t : T (p l) = subst (λ (m : ℕ). T (eqb m (suc l))) (sym q) (eqb_refl (suc l)) in
      let c : ℕ = least_from p (suc s) (suc l - suc s) in
      let g : LeastFrom p (suc s) c = least_from_holds p (suc s) (suc l - suc s) l (omega arith) (omega arith) t in (
        c,
        record {
          after = g.reached;
          before = omega (arith, least_at_most g l (omega arith) t);
          ends = eqb→eq (end_of a c) (suc l) g.passes;
          earlier = λ k i j z. g.least k i j (subst (λ (m : ℕ). T (eqb m (suc l))) (sym z) (eqb_refl (suc l)));
        },
      )

  module _ (s c e : ℕ) (w : Node a s e) (f : FirstToEnd a s c e) where
    -- Both parts of the cut before it are nodes.
    left_node : Node a s c
    left_node =
        record {
          start = f.after;
          inside = omega (arith, f.before, w.inside);
          reaches = omega (arith, f.before, w.reaches);
          within = λ k p q. go k p q (dec_lt c (end_of a k));
        }
      where
        go : (k : ℕ) → s < k → k < c → Dec (c < end_of a k) → end_of a k ≤ c
        go k p q (no r) = omega (arith, r)
        go k p q (yes r) =
            let b : c < e = f.before in
            absurd
            (f.earlier k p q
            (omega (arith, ends_nest a v k c (omega (arith, w.inside)) q r, f.ends, w.within k p (omega arith))))

    right_node : Node a c e
    right_node =
        record {
          start = f.before;
          inside = w.inside;
          reaches = omega (arith, f.ends);
          within = λ k p q. w.within k (omega (arith, f.after)) q;
        }

    -- The node's first position is FIRST of the cut, and its end is PAST.
    first_of_cut : first_for a c ≡ s
    first_of_cut =
        innermost_is a c c s
        (record { below = f.after; holds = omega (arith, f.before, w.reaches); last = left_node.within })

    past_of_cut : past_for a c ≡ e
    past_of_cut = past_of_inner a c (λ z. omega (arith, first_of_cut, f.after)) ∙ f.ends

module _ {ℓ κ} {A : Type ℓ} (O : Letters {ℓ, κ} A) (x : List A) (a : List ℕ) (h : IsLyndonArray O x a) where
  v : Valid a
  v = array_valid O x a h

  -- The cut before it is the right forest's: its span is the node's longest proper Lyndon suffix.
  cut_is_right : (s c e : ℕ) → Node a s e → FirstToEnd a s c e → RightCut O x s c e
  cut_is_right s c e w f =
      record {
        proper = f.after;
        non_empty = f.before;
        lyndon =
            subst (λ (m : ℕ). Lyndon O (span c m x)) f.ends
            (h.entry c (omega (arith, f.before, w.inside, h.size))).lyndon;
        longest = λ k p q l. shorter k p q l;
      }
    where
      shorter : (k : ℕ) → s < k → k < c → ¬ Lyndon O (span k e x)
      shorter k p q l =
          let b : c < e = f.before in
          let i : e ≤ length x = omega (arith, w.inside, h.size) in
          let r : e ≡ k + (e - k) = omega arith in
          let t : end_of a k ≤ e = w.within k p (omega arith) in
          (h.entry k (omega arith)).longest (e - k) (omega (arith, f.earlier k p q)) (omega arith)
          (subst (λ (m : ℕ). Lyndon O (span k m x)) r l)

  -- The tree of a node.
  node_tree : (d s e : ℕ) → e ≤ s + d → Node a s e → (t : CutTree (RightCut O x) s e) × Recorded (forest_first a) (forest_past a) t
  node_tree zero s e b w = absurd (omega (arith, w.start))
  node_tree (suc d) s e b w = go (dec_lt (suc s) e) (node_tree d)
    where
      go : Dec (suc s < e) → ((s e : ℕ) → e ≤ s + d → Node a s e → (t : CutTree (RightCut O x) s e) × Recorded (forest_first a) (forest_past a) t) →
          (t : CutTree (RightCut O x) s e) × Recorded (forest_first a) (forest_past a) t
      go (no l) rest = let q : e ≡ suc s = omega (arith, l, w.start) in (letter q, tt)
      go (yes l) rest =
          let g = first_to_end a v s e w l in
          let c : ℕ = g.0 in
          let f : FirstToEnd a s c e = g.1 in
          let p = rest s c (omega (arith, f.before)) (left_node a v s c e w f) in
          let q = rest c e (omega (arith, f.after)) (right_node a v s c e w f) in
          let i : c < length a = omega (arith, f.before, w.inside) in (
            cut c (cut_is_right s c e w f) p.0 q.0,
            (
              get_or-forest_first a c i ∙ first_of_cut a v s c e w f,
              get_or-forest_past a c i ∙ past_of_cut a v s c e w f,
              p.1,
              q.1,
            ),
          )

  next_start : (i : ℕ) (s : List ℕ) → EndChain a i s → get_or s 0 (length x) ≡ i
  next_start i [] c = sym h.size ∙ sym c
  next_start i (j ∷ s) c = sym c.0

  factor_tree : (i : ℕ) → i < length a → Unheld a i i → Tree (RightCut O x) (forest_first a) (forest_past a) i (end_of a i)
  factor_tree i l u =
      let own : first_for a i ≡ i = unheld_is a i i u in
      let t =
      node_tree (length a) i (end_of a i) (omega (arith, end_inside a v i l))
      (record {
        start = end_after a v i l;
        inside = end_inside a v i l;
        reaches = omega arith;
        within = λ k p q. ends_nest a v i k (omega (arith, end_inside a v i l)) p q;
      }) in
      record {
        own_first = get_or-forest_first a i l ∙ own;
        own_past = get_or-forest_past a i l ∙ past_of_start a i own;
        tree = t.0;
        recorded = t.1;
      }

  factor_trees : (i : ℕ) (s : List ℕ) → EndChain a i s → Unheld a i i → (k : ℕ) → k < length s →
      Tree (RightCut O x) (forest_first a) (forest_past a) (get_or s k 0) (get_or s (suc k) (length x))
  factor_trees i [] c u k l = absurd (omega arith)
  factor_trees i (j ∷ s) c u zero l =
      rw (next_start (end_of a i) s c.2, ← c.0) (factor_tree i c.1 u)
  factor_trees i (j ∷ s) c u (suc k) l =
      factor_trees (end_of a i) s c.2 (end_unheld a v i c.1 u) k (omega arith)

  -- The lists are the right forest of the text.
  pub array_forest : IsRightForest O x (forest_first a) (forest_past a)
  array_forest =
      record {
        first_size = length-forest_first a ∙ h.size;
        past_size = length-forest_past a ∙ h.size;
        starts = factor_starts a;
        factorization = array_factorization O x a h;
        factor = factor_trees 0 (factor_starts a) (starts_ends a v) (λ m l. absurd (omega arith));
      }

-- Valid arrays with the same FIRST and PAST everywhere.
module _ (a b : List ℕ) (v : Valid a) (w : Valid b) (size : length a ≡ length b)
    (firsts : (j : ℕ) → j < length a → first_for a j ≡ first_for b j)
  where
    -- Where a position starts a factor, the span of a does not end before that of b: the end of a's span starts a factor too.
    start_reaches : (j : ℕ) → j < length a → first_for a j ≡ j → end_of b j ≤ end_of a j
    start_reaches j h own = go (dec_lt (end_of a j) (end_of b j))
      where
        go : Dec (end_of a j < end_of b j) → end_of b j ≤ end_of a j
        go (no l) = omega (arith, l)
        go (yes l) =
            let k : ℕ = end_of a j in
            let i : k < length b = omega (arith, end_inside b w j (omega arith)) in
            let own_k : first_for a k ≡ k = unheld_is a k k (end_unheld a v j h (own_unheld a j own)) in
            let u : Unheld b k k = own_unheld b k (sym (firsts k (omega arith)) ∙ own_k) in
            absurd (omega (arith, u j (end_after a v j h)))

-- A valid array is determined by the right forest read off it.
pub forest_determines : (a b : List ℕ) → Valid a → Valid b → forest_first a ≡ forest_first b → forest_past a ≡ forest_past b → a ≡ b
forest_determines a b v w e f = ext_get_or 0 a b size (λ j h. at j h (ℕ_discrete (first_for a j) j))
  where
    size : length a ≡ length b
    size = sym (length-forest_first a) ∙ ap length e ∙ length-forest_first b

    firsts : (j : ℕ) → j < length a → first_for a j ≡ first_for b j
    firsts j h =
        sym (get_or-forest_first a j h) ∙ ap (λ (l : List ℕ). get_or l j 0) e ∙ get_or-forest_first b j (omega (arith, size))

    pasts : (j : ℕ) → j < length a → past_for a j ≡ past_for b j
    pasts j h =
        sym (get_or-forest_past a j h) ∙ ap (λ (l : List ℕ). get_or l j 0) f ∙ get_or-forest_past b j (omega (arith, size))

    at : (j : ℕ) → j < length a → Dec (first_for a j ≡ j) → get_or a j 0 ≡ get_or b j 0
    at j h (yes own) =
        omega (
          arith,
          start_reaches a b v w size firsts j h own,
          start_reaches b a w v (sym size) (λ k l. sym (firsts k (omega (arith, size)))) j (omega (arith, size))
              (sym (firsts j h) ∙ own),
        )
    at j h (no inner) =
        omega (
          arith,
          past_of_inner a j inner,
          past_of_inner b j (λ z. inner (firsts j h ∙ z)),
          pasts j h,
        )
