-- Where the letters of a text are compared, its Lyndon array, factorization, suffix table and forests exist. That they are compared cannot
-- be refuted; so for all ordered letters it cannot be refuted that these lists exist.
-- Assumes nothing.
use Rattle.std.specs.Prelude.{◌≡◌, ◌↔◌, Bool, true, false, List, [], ◌∷◌, ℕ, ◌<◌, ◌≤◌, T, length, drop}
use Rattle.std.proofs.Common.{ap, subst, ◌∙◌, arith}
use Rattle.std.proofs.Math.Decide.{dec_lt, dec_le}
use Rattle.std.proofs.Math.Seq.{take-nil, drop-nil}
use Rattle.words.specs.Letters.{Letters}
use Rattle.words.specs.Word.{span}
use Rattle.words.specs.Lyndon.{Lyndon}
use Rattle.words.specs.LyndonArray.{IsLyndonArray}
use Rattle.words.specs.Factorization.{IsFactorization}
use Rattle.words.specs.SuffixTable.{IsSuffixTable}
use Rattle.words.specs.RightForest.{IsRightForest}
use Rattle.words.specs.LeftForest.{IsLeftForest}
use Rattle.words.specs.ArrayForest.{forest_first, forest_past}
use Rattle.words.specs.ArrayFactors.{factor_starts}
use Rattle.words.specs.Compute.LyndonArray.{greatest_array}
use Rattle.words.specs.Compute.SuffixTable.{least_table}
use Rattle.words.specs.Laws.ForestRecords.{forest_of_holds, greatest_left_cuts}
use Rattle.words.specs.Laws.Lyndon.{LyndonTest}
use Rattle.words.specs.Laws.Position.{SpanLyndon}
use Rattle.words.specs.Laws.SpanLyndon.{letters, lyndon_span, span_lyndon}
use Rattle.words.specs.Laws.SuffixOrder.{NextSmaller}
use Rattle.words.specs.Laws.NextSmaller.{next_lyndon, lyndon_before_next}
use Rattle.words.specs.Laws.Compared.{AllCompared, next_exists, all_compared_irrefutable}
use Rattle.words.specs.Laws.ArrayFactors.{array_factorization}
use Rattle.words.specs.Laws.ArrayForest.{array_forest}

-- Where the letters of a text are compared, it is decided whether a span of it is a Lyndon word: one is, if the text cut off at its end has
-- its next smaller suffix there.
pub span_lyndon_decided {ℓ κ} : {A : Type ℓ} (O : Letters {ℓ, κ} A) (x : ℕ → A) (n : ℕ) → AllCompared O x n → (a b : ℕ) → b ≤ n → Dec (SpanLyndon O x a b)
span_lyndon_decided O x n compared a b h = within (dec_lt a b)
  where
    at : (e : ℕ) → NextSmaller O x b a e → Dec (e < b) → Dec (SpanLyndon O x a b)
    at e m (yes l) = no (λ w. omega (arith, lyndon_before_next O x b a b e w (omega arith) m))
    at e m (no l) =
        let t : e ≡ b = omega (arith, l, m.inside) in
        yes (subst (λ (k : ℕ). SpanLyndon O x a k) t (next_lyndon O x b a e m))

    within : Dec (a < b) → Dec (SpanLyndon O x a b)
    within (yes l) =
        let m = next_exists O x b (λ i j p q. compared i j (omega arith) (omega arith)) a l in
        at m.0 m.1 (dec_lt m.0 b)
    within (no l) = no (λ w. l w.non_empty)

-- The answer of a decision.
abbrev pub answered {ℓ} : {P : Type ℓ} → Dec P → Bool
answered (yes p) = true
answered (no n) = false

pub answered_holds {ℓ} : {P : Type ℓ} (d : Dec P) → T (answered d) ↔ P
answered_holds (yes p) = (λ t. p, λ q. tt)
answered_holds (no n) = (λ t. absurd t, n)

module _ {ℓ κ} {A : Type ℓ} (O : Letters {ℓ, κ} A) (z : A) (x : List A) (compared : AllCompared O (letters z x) (length x)) where
  compared_lyndon : (a b : ℕ) → Dec (b ≤ length x) → Dec (Lyndon O (span a b x) × (b ≤ length x))
  compared_lyndon a b (no l) = no (λ p. l p.1)
  compared_lyndon a b (yes l) = go (span_lyndon_decided O (letters z x) (length x) compared a b l)
    where
      go : Dec (SpanLyndon O (letters z x) a b) → Dec (Lyndon O (span a b x) × (b ≤ length x))
      go (yes w) = yes (span_lyndon O z x a b l w, l)
      go (no n) = no (λ p. n (lyndon_span O z x a b l p.0))

  -- Where the letters of a text are compared, its spans are tested.
  pub compared_test : LyndonTest O x
  compared_test =
      record {
        test = λ a b. answered (compared_lyndon a b (dec_le b (length x)));
        right =
            λ a b h. let d = answered_holds (compared_lyndon a b (dec_le b (length x))) in (λ t. (d.0 t).0, λ w. d.1 (w, h));
      }

module _ {ℓ κ} {A : Type ℓ} {O : Letters {ℓ, κ} A} {x : List A} (t : LyndonTest O x) where
  -- A text whose spans are tested has a Lyndon array.
  pub tested_array : (a : List ℕ) × IsLyndonArray O x a
  tested_array = (_, greatest_array t)

  -- It has a factorization.
  pub tested_factorization : (s : List ℕ) × IsFactorization O x s
  tested_factorization = let a = tested_array in (factor_starts a.0, array_factorization O x a.0 a.1)

  -- It has a suffix table.
  pub tested_suffix_table : (u : List ℕ) × IsSuffixTable O x u
  tested_suffix_table = (_, least_table t)

  -- It has a right forest.
  pub tested_right_forest : (first : List ℕ) × (past : List ℕ) × IsRightForest O x first past
  tested_right_forest = let a = tested_array in (forest_first a.0, forest_past a.0, array_forest O x a.0 a.1)

  -- It has a left forest.
  pub tested_left_forest : (first : List ℕ) × (past : List ℕ) × IsLeftForest O x first past
  tested_left_forest = (_, _, forest_of_holds (greatest_left_cuts t) tested_factorization.1)

-- The empty text has no Lyndon word.
pub empty_test {ℓ κ} : {A : Type ℓ} (O : Letters {ℓ, κ} A) → LyndonTest {A = A} O []
empty_test O =
    record {
      test = λ a b. false;
      right = λ a b h. (λ t. absurd t, λ w. absurd (w.non_empty (ap (drop a) (take-nil b) ∙ drop-nil a)));
    }

-- That the spans of a text are tested cannot be refuted.
pub test_irrefutable {ℓ κ} : {A : Type ℓ} (O : Letters {ℓ, κ} A) (x : List A) → ¬ ¬ LyndonTest O x
test_irrefutable O [] never = never (empty_test O)
test_irrefutable O (c ∷ x) never =
    all_compared_irrefutable O (letters c (c ∷ x)) (length (c ∷ x)) (λ compared. never (compared_test O c (c ∷ x) compared))
