-- What an array alone says of the texts that have it, over letters of any kind under any total order, with no comparison decided: which
-- arrays a text has, the text written for an array, the right forest, and when two texts have one array. Every theorem about
-- texts holds for letters and orders of every level; comparisons are decided in the last one alone.
-- Assumes nothing.
use Rattle.std.specs.Prelude.{◌≡◌, refl, ◌↔◌, List, ℕ, length}
use Rattle.std.proofs.Common.{sym, ap, subst, ◌∙◌}
use Rattle.words.specs.Letters.{Letters, rising}
use Rattle.words.specs.Decided.{Decided}
use Rattle.words.specs.LyndonArray.{IsLyndonArray}
use Rattle.words.specs.Factorization.{IsFactorization}
use Rattle.words.specs.RightForest.{IsRightForest}
use Rattle.words.specs.ValidArray.{Valid, Fault, text_for}
use Rattle.words.specs.Permutation.{EachOnce}
use Rattle.words.specs.ArrayForest.{forest_first, forest_past}
use Rattle.words.specs.ArrayFactors.{factor_starts}
use Rattle.words.specs.Compute.ValidArray.{Verdict, fits, fault, HasVerdict, check_array, check_array_holds}
use Rattle.words.specs.Compute.LyndonArray.{array_of, array_of_holds}
use Rattle.words.specs.Compute.Factorization.{factorization_of, factorization_of_holds}
use Rattle.words.specs.Compute.RightForest.{right_first_of, right_past_of, right_forest_of_holds}
use Rattle.words.specs.Laws.ValidArray.{valid_no_fault, check_array_computes}
use Rattle.words.specs.Laws.FactorChain.{factorization_unique}
use Rattle.words.specs.Laws.ForestUnique.{right_forest_unique}
use Rattle.words.specs.Laws.ArrayValid.{array_valid}
use Rattle.words.specs.Laws.ValidText.{text_has_array, text_each_once}
use Rattle.words.specs.Laws.ArrayFactors.{array_factorization}
use Rattle.words.specs.Laws.ArrayForest.{array_forest, forest_determines}
use Rattle.words.specs.Laws.LiftedNumbers.{LiftedNumber, lifted_rising, lifted_text, lifted_array}

-- A text over some totally ordered letters that has a as its Lyndon array: letters of level ℓ, under an order of level κ. What is
-- shown of it below is shown for every ℓ and κ, so of letters of any kind.
pub record TextWith {ℓ κ} (a : List ℕ) : Type ((ℓ + 1) ⊔ (κ + 1)) where
  pub Letter : Type ℓ
  pub order : Letters {ℓ, κ} Letter
  pub text : List Letter
  pub has : IsLyndonArray order text a

-- The check finds a fault: document 01's refusal 6, 7 or 8.
pub record Faulty (a : List ℕ) : Type 0 where
  pub kind : Fault
  pub position : ℕ
  pub found : check_array a ≡ fault kind position

-- An array that a text has is valid.
pub has_array_valid {ℓ κ} : {A : Type ℓ} (O : Letters {ℓ, κ} A) (x : List A) (a : List ℕ) → IsLyndonArray O x a → Valid a
has_array_valid = array_valid

-- A valid array is the rising one of the text that document 01 writes for it.
pub text_for_has_array : (a : List ℕ) → Valid a → IsLyndonArray rising (text_for a) a
text_for_has_array = text_has_array

-- The letters of that text are 0 to n − 1, each used once.
pub text_for_each_once : (a : List ℕ) → Valid a → EachOnce (length a) (text_for a)
text_for_each_once = text_each_once

-- An array is valid exactly when some text has it, whatever kind of letters is asked for.
pub valid_exactly {ℓ κ} : (a : List ℕ) → Valid a ↔ TextWith {ℓ, κ} a
valid_exactly a = (
  λ v.
      record {
        Letter = LiftedNumber {ℓ};
        order = lifted_rising {ℓ, κ};
        text = lifted_text (text_for a);
        has = lifted_array {ℓ, κ} (text_for a) a (text_has_array a v);
      },
  λ t. array_valid t.order t.text a t.has,
)

-- So a text of one kind of letters has it exactly when one of any other kind has it.
pub any_kind {ℓ κ ℓ' κ'} : (a : List ℕ) → TextWith {ℓ, κ} a ↔ TextWith {ℓ', κ'} a
any_kind a = (λ t. (valid_exactly a).0 ((valid_exactly a).1 t), λ t. (valid_exactly a).0 ((valid_exactly a).1 t))

-- The check passes exactly the arrays that some text has.
pub passed_exactly {ℓ κ} : (a : List ℕ) → (check_array a ≡ fits) ↔ TextWith {ℓ, κ} a
passed_exactly a = (
  λ e. (valid_exactly a).0 (subst (HasVerdict a) e (check_array_holds a)),
  λ t. check_array_computes a fits ((valid_exactly a).1 t),
)

-- The check refuses an array exactly when no text has it.
pub refused_exactly {ℓ κ} : (a : List ℕ) → Faulty a ↔ (¬ TextWith {ℓ, κ} a)
refused_exactly a = (
  λ f t. valid_no_fault a f.kind f.position ((valid_exactly a).1 t) (subst (HasVerdict a) f.found (check_array_holds a)),
  λ n. go n (check_array a) refl,
)
  where
    go : ¬ TextWith {ℓ, κ} a → (v : Verdict) → check_array a ≡ v → Faulty a
    go n fits e = absurd (n ((passed_exactly a).0 e))
    go n (fault f i) e = record { kind = f; position = i; found = e }

-- What is read off an array is the right forest of every text that has it.
pub forest_of_every_text {ℓ κ} : {A : Type ℓ} (O : Letters {ℓ, κ} A) (x : List A) (a : List ℕ) → IsLyndonArray O x a
    → IsRightForest O x (forest_first a) (forest_past a)
forest_of_every_text = array_forest

-- Two texts, over whatever letters and orders, so also two texts of one length under one order, have equal arrays exactly when their factor
-- lists and right forests are equal. Array, factor list and right forest of a text are in one order (document 02, E12).
pub equal_arrays_exactly {ℓ κ ℓ' κ'} : {A : Type ℓ} {B : Type ℓ'} (O : Letters {ℓ, κ} A) (P : Letters {ℓ', κ'} B) (x : List A) (y : List B) (a b s t first past first' past' : List ℕ)
    → IsLyndonArray O x a → IsLyndonArray P y b
    → IsFactorization O x s → IsFactorization P y t
    → IsRightForest O x first past → IsRightForest P y first' past'
    → (a ≡ b) ↔ ((s ≡ t) × (first ≡ first') × (past ≡ past'))
equal_arrays_exactly O P x y a b s t first past first' past' ha hb hs ht hf hg = (
  λ e. (
    starts_a ∙ ap factor_starts e ∙ sym starts_b,
    forest_a.0 ∙ ap forest_first e ∙ sym forest_b.0,
    forest_a.1 ∙ ap forest_past e ∙ sym forest_b.1,
  ),
  λ e.
      forest_determines a b (array_valid O x a ha) (array_valid P y b hb)
      (sym forest_a.0 ∙ e.1 ∙ forest_b.0)
      (sym forest_a.1 ∙ e.2 ∙ forest_b.1),
)
  where
    starts_a : s ≡ factor_starts a
    starts_a = factorization_unique O x s (factor_starts a) hs (array_factorization O x a ha)

    starts_b : t ≡ factor_starts b
    starts_b = factorization_unique P y t (factor_starts b) ht (array_factorization P y b hb)

    forest_a : (first ≡ forest_first a) × (past ≡ forest_past a)
    forest_a = right_forest_unique hf (array_forest O x a ha)

    forest_b : (first' ≡ forest_first b) × (past' ≡ forest_past b)
    forest_b = right_forest_unique hg (array_forest P y b hb)

-- The same of what is computed, for letters whose comparisons are decided, with nothing else assumed.
pub equal_arrays_computed {ℓ κ ℓ' κ'} : {A : Type ℓ} {B : Type ℓ'} {O : Letters {ℓ, κ} A} {P : Letters {ℓ', κ'} B} (D : Decided O) (E : Decided P)
    (x : List A) (y : List B)
    → (array_of D x ≡ array_of E y)
    ↔ ((factorization_of D x ≡ factorization_of E y) × (right_first_of D x ≡ right_first_of E y) × (right_past_of D x ≡ right_past_of E y))
equal_arrays_computed {O = O} {P = P} D E x y =
    equal_arrays_exactly O P x y (array_of D x) (array_of E y) (factorization_of D x) (factorization_of E y) (right_first_of D x) (right_past_of D x)
    (right_first_of E y) (right_past_of E y)
    (array_of_holds D x)
    (array_of_holds E y)
    (factorization_of_holds D x)
    (factorization_of_holds E y)
    (right_forest_of_holds D x)
    (right_forest_of_holds E y)
