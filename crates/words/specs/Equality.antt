-- Letters whose equality is decided by a test.
-- Assumes nothing.
use Rattle.std.specs.Prelude.{◌≡◌, ◌↔◌, Bool, true, false, ℕ, T, eqb}
use Rattle.std.proofs.Common.{sym, subst, eqb→eq}
use Rattle.std.proofs.Math.Dec.{eqb_refl}
use Rattle.words.specs.Letters.{Letters}
use Rattle.words.specs.Decided.{Comparison, below, same, above, Means, Decided}

-- A test that passes exactly for equal letters: what a form that computes needs where no order is used.
pub record DecidedEquality {ℓ} (A : Type ℓ) : Type ℓ where
  pub equal : A → A → Bool
  pub right : (a b : A) → T (equal a b) ↔ (a ≡ b)

pub eqb_right : (a b : ℕ) → T (eqb a b) ↔ (a ≡ b)
eqb_right a b = (eqb→eq a b, λ e. subst (λ (k : ℕ). T (eqb a k)) e (eqb_refl a))

-- Numbers are compared by one test.
abbrev pub decided_number_equality : DecidedEquality ℕ
decided_number_equality = record { equal = eqb; right = eqb_right }

-- The answer of a comparison is "same".
abbrev pub is_same : Comparison → Bool
is_same below = false
is_same same = true
is_same above = false

pub is_same_right {ℓ κ} : {A : Type ℓ} (O : Letters {ℓ, κ} A) (c : Comparison) (a b : A) → Means O c a b → T (is_same c) ↔ (a ≡ b)
is_same_right O below a b m = (λ t. absurd t, λ e. m.0 e)
is_same_right O same a b m = (λ t. m.lower, λ e. tt)
is_same_right O above a b m = (λ t. absurd t, λ e. m.0 (sym e))

-- A way to decide comparisons decides equality.
abbrev pub decided_equality {ℓ κ} : {A : Type ℓ} {O : Letters {ℓ, κ} A} → Decided O → DecidedEquality A
decided_equality {O = O} D =
    record {
      equal = λ a b. is_same (D.compare a b);
      right = λ a b. is_same_right O (D.compare a b) a b (D.right a b);
    }
