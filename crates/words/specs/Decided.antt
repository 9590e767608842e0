-- Letters whose comparisons are decided.
-- Assumes nothing.
use Rattle.std.specs.Prelude.{◌≡◌, refl, Bool, true, false, ℕ, zero, suc, ◌<◌, ◌≤◌, T, ltb, eqb}
use Rattle.std.proofs.Common.{sym, subst, arith, ltb→lt, nltb→le, eqb→eq}
use Rattle.std.proofs.Math.Logic.{Lift}
use Rattle.std.proofs.Math.Dec.{eqb_refl}
use Rattle.words.specs.Letters.{Letters, Smaller, reversed, rising, falling, order_of}

-- The answers of a comparison (document 01: "below, same or above").
pub data Comparison : Type 0 where
  below same above : Comparison

-- What an answer says of two letters.
abbrev pub Means {ℓ κ} : {A : Type ℓ} → Letters {ℓ, κ} A → Comparison → A → A → Type (ℓ ⊔ κ)
Means O below a b = Smaller O a b
Means O same a b = Lift {ℓ, κ} (a ≡ b)
Means O above a b = Smaller O b a

-- A way to decide comparisons: what a form that computes needs, and no definition does.
pub record Decided {ℓ κ} {A : Type ℓ} (O : Letters {ℓ, κ} A) : Type (ℓ ⊔ κ) where
  pub compare : A → A → Comparison
  pub right : (a b : A) → Means O (compare a b) a b

abbrev pub turned : Comparison → Comparison
turned below = above
turned same = same
turned above = below

pub turned_means {ℓ κ} : {A : Type ℓ} (O : Letters {ℓ, κ} A) (c : Comparison) (a b : A) → Means O c a b → Means (reversed O) (turned c) a b
turned_means O below a b m = (λ e. m.0 (sym e), m.1)
turned_means O same a b m = record { lower = m.lower }
turned_means O above a b m = (λ e. m.0 (sym e), m.1)

abbrev pub decided_reversed {ℓ κ} : {A : Type ℓ} {O : Letters {ℓ, κ} A} → Decided O → Decided (reversed O)
decided_reversed {O = O} D =
    record {
      compare = λ a b. turned (D.compare a b);
      right = λ a b. turned_means O (D.compare a b) a b (D.right a b);
    }

-- Numbers are decided by two tests.
abbrev pub by_tests : Bool → Bool → Comparison
by_tests true e = below
by_tests false true = same
by_tests false false = above

abbrev pub compare_numbers : ℕ → ℕ → Comparison
compare_numbers a b = by_tests (ltb a b) (eqb a b)

pub compare_numbers_holds : (a b : ℕ) → Means rising (compare_numbers a b) a b
compare_numbers_holds a b = go (ltb a b) (eqb a b) refl refl
  where
    go : (l e : Bool) → ltb a b ≡ l → eqb a b ≡ e → Means rising (by_tests l e) a b
    go true e p q =
        let h : a < b = ltb→lt a b (rw p tt) in
        (λ z. omega arith, h)
    go false true p q = record { lower = eqb→eq a b (rw q tt) }
    go false false p q =
        let h : b ≤ a = nltb→le a b (rw p tt) in
        let d : ¬ (a ≡ b) = λ z. subst T q (subst (λ (k : ℕ). T (eqb a k)) z (eqb_refl a)) in
        (λ z. d (sym z), omega (arith, d))

abbrev pub decided_rising : Decided rising
decided_rising = record { compare = compare_numbers; right = compare_numbers_holds }

abbrev pub decided_falling : Decided falling
decided_falling = decided_reversed decided_rising

abbrev pub decided_order : (order : ℕ) → Decided (order_of order)
decided_order zero = decided_rising
decided_order (suc k) = decided_falling
