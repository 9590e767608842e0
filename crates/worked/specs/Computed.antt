-- What an example comes to by computation, and that it then holds: each form that computes satisfies its definition.
-- Assumes nothing.
use Rattle.std.specs.Prelude.{◌≡◌, List, [], ◌∷◌, ℕ, length}
use Rattle.std.proofs.Common.{sym, ap, subst, ◌∙◌}
use Rattle.words.specs.Letters.{rising, order_of}
use Rattle.words.specs.Decided.{decided_rising, decided_order}
use Rattle.words.specs.LyndonArray.{IsLyndonArray}
use Rattle.words.specs.Factorization.{IsFactorization}
use Rattle.words.specs.SuffixTable.{IsSuffixTable}
use Rattle.words.specs.RightForest.{IsRightForest}
use Rattle.words.specs.LeftForest.{IsLeftForest}
use Rattle.words.specs.ValidArray.{Fault, text_for}
use Rattle.words.specs.Compute.LyndonArray.{array_of, array_of_holds}
use Rattle.words.specs.Compute.Factorization.{factorization_of, factorization_of_holds}
use Rattle.words.specs.Compute.SuffixTable.{suffix_table_of, suffix_table_of_holds}
use Rattle.words.specs.Compute.RightForest.{right_first_of, right_past_of, right_forest_of_holds}
use Rattle.words.specs.Compute.LeftForest.{left_first_of, left_past_of}
use Rattle.words.specs.Laws.ForestRecords.{left_forest_of_holds}
use Rattle.words.specs.Compute.ValidArray.{fits, fault, HasVerdict, check_array, check_array_holds}
use Rattle.words.specs.ArrayForest.{forest_first, forest_past}
use Rattle.words.specs.ArrayTheorems.{TextWith, passed_exactly}
use Rattle.letters.specs.Default.{default_row}
use Rattle.answer.specs.declared.Answer.{Answer}
use Rattle.valid_array.specs.Faults.{reason_for}
use Rattle.answer.specs.Answers.{refused_for, number, value, comparisons}
use Rattle.answer.specs.AfterCall.{content_after}
use Rattle.answer.specs.AfterLaws.{content_refused}
use Rattle.answer.specs.Limits.{Sized}
use Rattle.valid_array.specs.Answers.{verdict_answer, array_checked}
use Rattle.from_array.specs.Theorems.{reconstruct_checked, reconstruct_accepts_exactly, written_text, right_forest_checked}
use Rattle.worked.specs.Example.{Example, array, factors, suffix_table, right_forest, left_forest, text, refused, Says, ByNumberAndByDefault, ExampleHolds, AllHold}

-- The computed left forest of x is f and p.
abbrev LeftComputed : List ℕ → List ℕ → List ℕ → Type 0
LeftComputed f p x = let s = factorization_of decided_rising x in (left_first_of decided_rising x s ≡ f) × (left_past_of decided_rising x s ≡ p)

-- The computed value is the one that the example gives.
abbrev pub Computed : Example → Type 0
Computed (array o x a) = array_of (decided_order o) x ≡ a
Computed (factors x s) = ByNumberAndByDefault (λ y. factorization_of decided_rising y ≡ s) x
Computed (suffix_table x t) = ByNumberAndByDefault (λ y. suffix_table_of decided_rising y ≡ t) x
Computed (right_forest x f p) = (right_first_of decided_rising x ≡ f) × (right_past_of decided_rising x ≡ p)
Computed (left_forest x f p) = ByNumberAndByDefault (LeftComputed f p) x
Computed (text a x) = Sized (length a) × (check_array a ≡ fits) × (text_for a ≡ x) × (array_of decided_rising x ≡ a)
Computed (refused a r p) = Sized (length a) × (f : Fault) × (check_array a ≡ fault f p) × (number (refused_for (reason_for f) p) ≡ r)

in_both : {P Q : List ℕ → Type 0} → ((y : List ℕ) → P y → Q y) → (x : List ℕ) → ByNumberAndByDefault P x → ByNumberAndByDefault Q x
in_both f x h = (f x h.0, f (default_row x) h.1)

left_holds : (f p x : List ℕ) → LeftComputed f p x → IsLeftForest rising x f p
left_holds f p x h =
    subst (λ (q : List ℕ). IsLeftForest rising x f q) h.1
    (subst (λ (g : List ℕ). IsLeftForest rising x g (left_past_of decided_rising x (factorization_of decided_rising x))) h.0
    (left_forest_of_holds decided_rising x (factorization_of_holds decided_rising x)))

pub computed_holds : (e : Example) → Computed e → ExampleHolds e
computed_holds (array o x a) h = subst (IsLyndonArray (order_of o) x) h (array_of_holds (decided_order o) x)
computed_holds (factors x s) h =
    in_both {P = λ y. factorization_of decided_rising y ≡ s} {Q = λ y. IsFactorization rising y s}
    (λ y e. subst (IsFactorization rising y) e (factorization_of_holds decided_rising y)) x h
computed_holds (suffix_table x t) h =
    in_both {P = λ y. suffix_table_of decided_rising y ≡ t} {Q = λ y. IsSuffixTable rising y t}
    (λ y e. subst (IsSuffixTable rising y) e (suffix_table_of_holds decided_rising y)) x h
computed_holds (right_forest x f p) h =
    subst (λ (q : List ℕ). IsRightForest rising x f q) h.1
    (subst (λ (g : List ℕ). IsRightForest rising x g (right_past_of decided_rising x)) h.0 (right_forest_of_holds decided_rising x))
computed_holds (left_forest x f p) h = in_both {P = LeftComputed f p} {Q = λ y. IsLeftForest rising y f p} (left_holds f p) x h
computed_holds (text a x) h =
    let sized = h.0 in
    let t : TextWith {0, 0} a = (passed_exactly a).0 h.1 in
    record {
      valid = subst (HasVerdict a) h.1 (check_array_holds a);
      is = h.2;
      has = subst (IsLyndonArray rising x) h.3 (array_of_holds decided_rising x);
      accepted = λ text room. (reconstruct_accepts_exactly a sized text room).1 t;
      left = λ text room. (written_text a sized text room t).0 ∙ h.2;
    }
computed_holds (refused a r p) h =
    let sized = h.0 in
    record {
      fault = h.1;
      first = subst (HasVerdict a) h.2 (check_array_holds a);
      reconstructed =
          λ text room. let e = told (reconstruct_checked a sized text room) in (says e, left_alone e (text_for a) text);
      forested =
          λ first past first_room past_room.
          let e = told (right_forest_checked a sized first past first_room past_room) in
          (says e, left_alone e (forest_first a) first, left_alone e (forest_past a) past);
    }
  where
    told : {answer : Answer} → answer ≡ array_checked a → answer ≡ refused_for (reason_for h.1) p
    told e = e ∙ ap (verdict_answer (length a)) h.2

    says : {answer : Answer} → answer ≡ refused_for (reason_for h.1) p → Says answer r p
    says e = record { numbered = ap number e ∙ h.3; valued = ap value e; uncompared = ap comparisons e }

    left_alone : {answer : Answer} → answer ≡ refused_for (reason_for h.1) p → (l before : List ℕ) → content_after answer l before ≡ before
    left_alone {answer} e l before = sym (content_refused answer (reason_for h.1) p e l before)

-- Every example of a table comes out by computation.
abbrev pub AllComputed : List Example → Type 0
AllComputed [] = Unit {0}
AllComputed (e ∷ es) = Computed e × AllComputed es

pub all_computed_hold : (es : List Example) → AllComputed es → AllHold es
all_computed_hold [] h = tt
all_computed_hold (e ∷ es) h = (computed_holds e h.0, all_computed_hold es h.1)
