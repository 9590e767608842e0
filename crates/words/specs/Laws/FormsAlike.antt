-- Two texts, over whatever letters, whose letters compare alike at every two positions have the same Lyndon suffix table and, where comparisons
-- are decided, the same factorization and left forest.
-- Assumes nothing.
use Rattle.std.specs.Prelude.{◌≡◌, List, ℕ, suc, ◌<◌, ◌≤◌, length, get_or}
use Rattle.std.proofs.Common.{sym, subst, ◌∙◌, arith}
use Rattle.words.specs.Letters.{Letters}
use Rattle.words.specs.Decided.{Decided, Comparison, Means, below, same, above}
use Rattle.words.specs.Factorization.{IsFactorization}
use Rattle.words.specs.SuffixTable.{LongestTo, IsSuffixTable}
use Rattle.words.specs.CutTree.{CutTree, letter, cut, Recorded, Tree}
use Rattle.words.specs.LeftForest.{LeftCut, IsLeftForest}
use Rattle.words.specs.ArrayFactors.{factor_starts}
use Rattle.words.specs.Compute.LyndonArray.{array_of, array_of_holds}
use Rattle.words.specs.Compute.Factorization.{factorization_of, factorization_of_holds}
use Rattle.words.specs.Compute.SuffixTable.{suffix_table_of, suffix_table_of_holds}
use Rattle.words.specs.Compute.LeftForest.{left_first_of, left_past_of}
use Rattle.words.specs.Laws.SpanLyndon.{letters}
use Rattle.words.specs.Laws.Letters.{one_answer}
use Rattle.words.specs.Laws.OrderedAlike.{OrderedAlike, lyndon_there, lyndon_back, alike_array}
use Rattle.words.specs.Laws.Factorization.{ends_inside}
use Rattle.words.specs.Laws.FactorChain.{factorization_unique}
use Rattle.words.specs.Laws.Unique.{suffix_table_unique}
use Rattle.words.specs.Laws.ForestUnique.{left_forest_unique}
use Rattle.words.specs.Laws.ForestRecords.{left_forest_of_holds}
use Rattle.words.specs.Laws.ArrayFactors.{array_factorization}

module _ {ℓ κ ℓ' κ'} {A : Type ℓ} {B : Type ℓ'} {O : Letters {ℓ, κ} A} {P : Letters {ℓ', κ'} B} {z : A} {w : B} {x : List A} {y : List B}
    (alike : OrderedAlike O P z w x y) where
  pub alike_suffix_table : (t : List ℕ) → IsSuffixTable O x t → IsSuffixTable P y t
  alike_suffix_table t h =
      record {
        size = h.size ∙ sym alike.size;
        entry = λ j l. let m : j < length x = omega (arith, alike.size) in carried j m (h.entry j m);
      }
    where
      carried : (j : ℕ) → j < length x → LongestTo O x j (get_or t j 0) → LongestTo P y j (get_or t j 0)
      carried j l g =
          record {
            start = g.start;
            ends = g.ends;
            lyndon = lyndon_there alike g.start (suc j) (omega arith) g.lyndon;
            longest = λ k m v. g.longest k m (lyndon_back alike k (suc j) (omega arith) v);
          }

  -- The same cuts.
  cut_there : (a c b : ℕ) → b ≤ length x → LeftCut O x a c b → LeftCut P y a c b
  cut_there a c b l r =
      record {
        non_empty = r.non_empty;
        proper = r.proper;
        lyndon = lyndon_there alike a c (omega (arith, r.proper)) r.lyndon;
        longest = λ k m h v. r.longest k m h (lyndon_back alike a k (omega arith) v);
      }

  tree_there : (first past : List ℕ) {a b : ℕ} (t : CutTree (LeftCut O x) a b) → b ≤ length x → Recorded first past t →
      (u : CutTree (LeftCut P y) a b) × Recorded first past u
  tree_there first past (letter e) l m = (letter e, tt)
  tree_there first past {a} {b} (cut c r u v) l m =
      let left = tree_there first past u (omega (arith, r.proper)) m.2 in
      let right = tree_there first past v l m.3 in
      (cut c (cut_there a c b l r) left.0 right.0, (m.0, m.1, left.1, right.1))

  -- What follows goes by the array, which is there where comparisons are decided.
  module _ (D : Decided O) where
    pub alike_factorization : (s : List ℕ) → IsFactorization O x s → IsFactorization P y s
    alike_factorization s h =
        let a = array_of D x in
        let has = array_of_holds D x in
        subst (IsFactorization P y) (factorization_unique O x (factor_starts a) s (array_factorization O x a has) h)
        (array_factorization P y a (alike_array alike a has))

    pub alike_left_forest : (first past : List ℕ) → IsLeftForest O x first past → IsLeftForest P y first past
    alike_left_forest first past f =
        record {
          first_size = f.first_size ∙ sym alike.size;
          past_size = f.past_size ∙ sym alike.size;
          starts = s;
          factorization = alike_factorization s f.factorization;
          factor =
              λ k l.
              subst (λ (n : ℕ). Tree (LeftCut P y) first past (get_or s k 0) (get_or s (suc k) n)) (sym alike.size) (carried k (f.factor k l));
        }
      where
        s : List ℕ
        s = f.starts

        carried : (k : ℕ) → Tree (LeftCut O x) first past (get_or s k 0) (get_or s (suc k) (length x)) →
            Tree (LeftCut P y) first past (get_or s k 0) (get_or s (suc k) (length x))
        carried k t =
            let moved = tree_there first past t.tree (ends_inside f.factorization (suc k)) t.recorded in
            record { own_first = t.own_first; own_past = t.own_past; tree = moved.0; recorded = moved.1 }

    -- And so the forms that compute are the same.
    module _ (E : Decided P) where
      pub alike_factors : factorization_of D x ≡ factorization_of E y
      alike_factors =
          factorization_unique P y (factorization_of D x) (factorization_of E y) (alike_factorization (factorization_of D x) (factorization_of_holds D x))
          (factorization_of_holds E y)

      pub alike_table : suffix_table_of D x ≡ suffix_table_of E y
      alike_table = suffix_table_unique (alike_suffix_table (suffix_table_of D x) (suffix_table_of_holds D x)) (suffix_table_of_holds E y)

      pub alike_left_lists :
          let s = factorization_of D x in
          let t = factorization_of E y in (left_first_of D x s ≡ left_first_of E y t) × (left_past_of D x s ≡ left_past_of E y t)
      alike_left_lists =
          let s = factorization_of D x in
          left_forest_unique (alike_left_forest (left_first_of D x s) (left_past_of D x s) (left_forest_of_holds D x (factorization_of_holds D x)))
          (left_forest_of_holds E y (factorization_of_holds E y))

      -- Every two letters have one answer.
      pub alike_answers : (i j : ℕ) → i < length x → j < length x → D.compare (letters z x i) (letters z x j) ≡ E.compare (letters w y i) (letters w y j)
      alike_answers i j p q =
          one_answer P (D.compare (letters z x i) (letters z x j)) (E.compare (letters w y i) (letters w y j)) (letters w y i) (letters w y j)
          (carried (D.compare (letters z x i) (letters z x j)) (D.right (letters z x i) (letters z x j)))
          (E.right (letters w y i) (letters w y j))
        where
          carried : (c : Comparison) → Means O c (letters z x i) (letters z x j) → Means P c (letters w y i) (letters w y j)
          carried below m = alike.there.smaller i j p q m
          carried same m = record { lower = alike.there.equal i j p q m.lower }
          carried above m = alike.there.smaller j i q p m
