-- The lists computed from the cuts of a rule are the forest under that rule; so are those computed for the left forest.
-- Assumes nothing.
use Rattle.std.specs.Prelude.{◌≡◌, refl, Bool, true, false, List, [], ◌∷◌, ◌++◌, ℕ, zero, suc, ◌+◌, ◌<◌, ◌≤◌, length, get_or, drop, T, ltb}
use Rattle.std.proofs.Common.{sym, ap, ◌∙◌, append_assoc, arith, length-append, drop-drop, get_or-drop, ltb→lt, nltb→le}
use Rattle.std.proofs.Math.Seq.{drop-append_seam}
use Rattle.words.specs.Letters.{Letters}
use Rattle.words.specs.Decided.{Decided}
use Rattle.words.specs.Factorization.{IsFactorization}
use Rattle.words.specs.CutTree.{CutTree, letter, cut, Recorded, Tree, IsForest}
use Rattle.words.specs.LeftForest.{LeftCut, IsLeftForest}
use Rattle.words.specs.Laws.Lyndon.{LyndonTest, test_letter}
use Rattle.words.specs.Compute.Lyndon.{lyndon_test}
use Rattle.words.specs.Compute.Search.{greatest_below, GreatestBelow, greatest_below_holds, at_most_greatest}
use Rattle.words.specs.Laws.Factorization.{Divides, division_reaches, factors_divide}
use Rattle.words.specs.Compute.LeftForest.{records_of, first_of, past_of, forest_of, left_first_of, left_past_of}

-- The rule cuts strictly inside a span, and its cut of each span of two letters or more up to n is computed.
pub record CutsBy {ρ} (Rule : ℕ → ℕ → ℕ → Type ρ) (cut_at : ℕ → ℕ → ℕ) (n : ℕ) : Type ρ where
  pub inside : (a c b : ℕ) → Rule a c b → (a < c) × (c < b)
  pub right : (a b : ℕ) → suc a < b → b ≤ n → Rule a (cut_at a b) b

-- What stands at position c and behind it.
at_position : (l : List ℕ) (c v : ℕ) (r : List ℕ) → drop c l ≡ v ∷ r → (get_or l c 0 ≡ v) × (drop (suc c) l ≡ r)
at_position l c v r e =
    let z : c + 0 ≡ c = omega arith in
    let o : c + 1 ≡ suc c = omega arith in (
      sym (rw z at (get_or-drop c l 0 0)) ∙ ap (λ (m : List ℕ). get_or m 0 0) e,
      sym (rw o at (drop-drop 1 c l)) ∙ ap (λ (m : List ℕ). drop 1 m) e,
    )

drop_past : (l u r : List ℕ) (i c : ℕ) → drop i l ≡ u ++ r → length u + i ≡ c → drop c l ≡ r
drop_past l u r i c e h =
    let z : i + length u ≡ c = omega arith in
    sym (rw z at (drop-drop (length u) i l)) ∙ ap (λ (m : List ℕ). drop (length u) m) e ∙ drop-append_seam u r

-- l holds, behind position a, what is recorded of the span from a to b.
record RecordsHeld (cut_at note : ℕ → ℕ → ℕ) (l : List ℕ) (d a b : ℕ) : Type 0 where
  rest : List ℕ
  seen : drop (suc a) l ≡ records_of cut_at note d a b ++ rest

-- l holds what is recorded of both parts of the span from a to b, and of the cut between them.
record PartsHeld (cut_at note : ℕ → ℕ → ℕ) (l : List ℕ) (d a b : ℕ) : Type 0 where
  first_part : RecordsHeld cut_at note l d a (cut_at a b)
  at_cut : get_or l (cut_at a b) 0 ≡ note a b
  second_part : RecordsHeld cut_at note l d (cut_at a b) b

records_cut : (cut_at note : ℕ → ℕ → ℕ) (d a b : ℕ) → ltb (suc a) b ≡ true
    → records_of cut_at note (suc d) a b ≡ records_of cut_at note d a (cut_at a b) ++ (note a b ∷ records_of cut_at note d (cut_at a b) b)
records_cut cut_at note d a b e = rw (e, records_of)

records_letter : (cut_at note : ℕ → ℕ → ℕ) (d a b : ℕ) → ltb (suc a) b ≡ false → records_of cut_at note (suc d) a b ≡ []
records_letter cut_at note d a b e = rw (e, records_of)

module _ {ρ} {Rule : ℕ → ℕ → ℕ → Type ρ} {cut_at : ℕ → ℕ → ℕ} {n : ℕ} (R : CutsBy Rule cut_at n) where
  cut_inside : (a b : ℕ) → suc a < b → b ≤ n → (a < cut_at a b) × (cut_at a b < b)
  cut_inside a b h f = R.inside a (cut_at a b) b (R.right a b h f)

  length-records_of : (note : ℕ → ℕ → ℕ) (d a b : ℕ) → a < b → b ≤ n → b ≤ a + d → length (records_of cut_at note d a b) + suc a ≡ b
  length-records_of note zero a b h f g = absurd (omega arith)
  length-records_of note (suc d) a b h f g = go (ltb (suc a) b) refl (length-records_of note d)
    where
      go : (t : Bool) → ltb (suc a) b ≡ t
          → ((a b : ℕ) → a < b → b ≤ n → b ≤ a + d → length (records_of cut_at note d a b) + suc a ≡ b)
          → length (records_of cut_at note (suc d) a b) + suc a ≡ b
      go true e r =
          let i = cut_inside a b (ltb→lt (suc a) b (rw e tt)) f in
          let c = cut_at a b in
          let u = r a c i.0 (omega arith) (omega arith) in
          let v = r c b i.1 f (omega arith) in
          rw (records_cut cut_at note d a b e)
          (omega (arith, length-append (records_of cut_at note d a c) (note a b ∷ records_of cut_at note d c b)))
      go false e r = rw (records_letter cut_at note d a b e) (omega (arith, nltb→le (suc a) b (rw e tt)))

  written_parts : (note : ℕ → ℕ → ℕ) (l : List ℕ) (d a b : ℕ) → ltb (suc a) b ≡ true → b ≤ n → b ≤ a + suc d
      → RecordsHeld cut_at note l (suc d) a b → PartsHeld cut_at note l d a b
  written_parts note l d a b e f g w =
      let i = cut_inside a b (ltb→lt (suc a) b (rw e tt)) f in
      let c = cut_at a b in
      let u = records_of cut_at note d a c in
      let r = note a b ∷ (records_of cut_at note d c b ++ w.rest) in
      let s : drop (suc a) l ≡ u ++ r = rw (records_cut cut_at note d a b e, append_assoc) at w.seen in
      let k = length-records_of note d a c i.0 (omega arith) (omega arith) in
      let p = at_position l c (note a b) (records_of cut_at note d c b ++ w.rest) (drop_past l u r (suc a) c s k) in
      record {
        first_part = record { rest = r; seen = s };
        at_cut = p.0;
        second_part = record { rest = w.rest; seen = p.1 };
      }

  -- Lists that hold what is recorded of a span record a tree of it.
  recorded_tree : (first past : List ℕ) (d a b : ℕ) → a < b → b ≤ n → b ≤ a + d
      → RecordsHeld cut_at first_of first d a b → RecordsHeld cut_at past_of past d a b → (t : CutTree Rule a b) × Recorded first past t
  recorded_tree first past zero a b h f g v w = absurd (omega arith)
  recorded_tree first past (suc d) a b h f g v w = go (ltb (suc a) b) refl (recorded_tree first past d)
    where
      go : (t : Bool) → ltb (suc a) b ≡ t
          → ((a b : ℕ) → a < b → b ≤ n → b ≤ a + d → RecordsHeld cut_at first_of first d a b → RecordsHeld cut_at past_of past d a b
          → (t : CutTree Rule a b) × Recorded first past t)
          → (t : CutTree Rule a b) × Recorded first past t
      go true e r =
          let j : suc a < b = ltb→lt (suc a) b (rw e tt) in
          let i = cut_inside a b j f in
          let c = cut_at a b in
          let p = written_parts first_of first d a b e f g v in
          let q = written_parts past_of past d a b e f g w in
          let s = r a c i.0 (omega arith) (omega arith) p.first_part q.first_part in
          let t = r c b i.1 f (omega arith) p.second_part q.second_part in
          (cut c (R.right a b j f) s.0 t.0, (p.at_cut, q.at_cut, s.1, t.1))
      go false e r =
          let q : b ≡ suc a = omega (arith, nltb→le (suc a) b (rw e tt)) in
          (letter q, tt)

  length-forest_of : (note : ℕ → ℕ → ℕ) (i : ℕ) (s : List ℕ) → Divides i s n → length (forest_of cut_at note n s) + i ≡ n
  length-forest_of note i [] d = omega arith
  length-forest_of note i (a ∷ s) d =
      let b = get_or s 0 n in
      let f : b ≤ n = division_reaches b s n d.2 0 in
      omega (
        arith,
        length-append (records_of cut_at note n a b) (forest_of cut_at note n s),
        length-records_of note n a b d.1 f (omega arith),
        length-forest_of note b s d.2,
      )

  -- What the list holds from the first start on and from the second start on.
  drop_factor : (note : ℕ → ℕ → ℕ) (l : List ℕ) (i a : ℕ) (s : List ℕ) → Divides i (a ∷ s) n
      → drop i l ≡ forest_of cut_at note n (a ∷ s)
      → (get_or l a 0 ≡ a) × RecordsHeld cut_at note l n a (get_or s 0 n) × (drop (get_or s 0 n) l ≡ forest_of cut_at note n s)
  drop_factor note l i a s d e =
      let b = get_or s 0 n in
      let f : b ≤ n = division_reaches b s n d.2 0 in
      let u = records_of cut_at note n a b in
      let o : drop a l ≡ a ∷ (u ++ forest_of cut_at note n s) = rw d.0 at e in
      let p = at_position l a a (u ++ forest_of cut_at note n s) o in (
        p.0,
        record { rest = forest_of cut_at note n s; seen = p.1 },
        drop_past l u (forest_of cut_at note n s) (suc a) b p.1 (length-records_of note n a b d.1 f (omega arith)),
      )

  -- Lists that hold what is recorded of all positions from i on have a tree for each factor from i on.
  factor_trees : (first past : List ℕ) (i : ℕ) (s : List ℕ) → Divides i s n → drop i first ≡ forest_of cut_at first_of n s
      → drop i past ≡ forest_of cut_at past_of n s → (k : ℕ) → k < length s
      → Tree Rule first past (get_or s k 0) (get_or s (suc k) n)
  factor_trees first past i [] d e g k h = absurd (omega arith)
  factor_trees first past i (a ∷ s) d e g zero h =
      let b = get_or s 0 n in
      let f : b ≤ n = division_reaches b s n d.2 0 in
      let p = drop_factor first_of first i a s d e in
      let q = drop_factor past_of past i a s d g in
      let t = recorded_tree first past n a b d.1 f (omega arith) p.1 q.1 in
      record { own_first = p.0; own_past = q.0; tree = t.0; recorded = t.1 }
  factor_trees first past i (a ∷ s) d e g (suc k) h =
      factor_trees first past (get_or s 0 n) s d.2
      (drop_factor first_of first i a s d e).2
      (drop_factor past_of past i a s d g).2
      k
      (omega arith)

-- The lists computed from a rule's cuts are the forest under that rule.
pub forest_of_holds {ℓ κ ρ} : {A : Type ℓ} {O : Letters {ℓ, κ} A} {x : List A} {s : List ℕ} {Rule : ℕ → ℕ → ℕ → Type ρ} {cut_at : ℕ → ℕ → ℕ}
    → CutsBy Rule cut_at (length x) → IsFactorization O x s
    → IsForest O Rule x (forest_of cut_at first_of (length x) s) (forest_of cut_at past_of (length x) s)
forest_of_holds {x = x} {s = s} {cut_at = cut_at} R F =
    let n = length x in
    let d = factors_divide F in
    record {
      first_size = omega (arith, length-forest_of R first_of 0 s d);
      past_size = omega (arith, length-forest_of R past_of 0 s d);
      starts = s;
      factorization = F;
      factor = factor_trees R (forest_of cut_at first_of n s) (forest_of cut_at past_of n s) 0 s d refl refl;
    }

module _ {ℓ κ} {A : Type ℓ} {O : Letters {ℓ, κ} A} {x : List A} (t : LyndonTest O x) where
  -- The greatest end before b that passes a test for Lyndon words is the cut of the left forest's rule.
  pub greatest_left_cuts : CutsBy (LeftCut O x) (λ a b. greatest_below (λ k. t.test a k) b) (length x)
  greatest_left_cuts = record { inside = λ a c b r. (r.non_empty, r.proper); right = right }
    where
      right : (a b : ℕ) → suc a < b → b ≤ length x → LeftCut O x a (greatest_below (λ k. t.test a k) b) b
      right a b h f =
          let p : ℕ → Bool = λ k. t.test a k in
          let c = greatest_below p b in
          let one : T (p (suc a)) = test_letter t a (omega arith) in
          let g : GreatestBelow p b c = greatest_below_holds p b (suc a) h one in
          record {
            non_empty = at_most_greatest g (suc a) h one;
            proper = g.below;
            lyndon = (t.right a c (omega (arith, g.below))).0 g.passes;
            longest = λ k i j l. g.greatest k i j ((t.right a k (omega arith)).1 l);
          }

module _ {ℓ κ} {A : Type ℓ} {O : Letters {ℓ, κ} A} (D : Decided O) (x : List A) where
  -- The computed lists are the left forest.
  pub left_forest_of_holds : {s : List ℕ} → IsFactorization O x s → IsLeftForest O x (left_first_of D x s) (left_past_of D x s)
  left_forest_of_holds F = forest_of_holds (greatest_left_cuts (lyndon_test D x)) F
