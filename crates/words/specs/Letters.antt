-- Totally ordered letters.
-- Assumes nothing.
use Rattle.std.specs.Prelude.{◌≡◌, ℕ, zero, suc, ◌<◌}
use Rattle.std.proofs.Common.{arith}

-- Letters of any kind under a total order (document 01, "The words used", last point): of two different letters exactly one is
-- smaller, and a letter smaller than a second is smaller than all that the second is smaller than. Nothing else is asked of them: no
-- way to decide a comparison, and not even that no letter is before itself. "Exactly one" is said as "not neither, and not both".
-- "Of any kind": the letters are those of any type, of any universe, and so is what it means that one is before another.
pub record Letters {ℓ κ} (A : Type ℓ) : Type (ℓ ⊔ (κ + 1)) where
  pub Before : A → A → Type κ
  pub not_neither : (a b : A) → ¬ (a ≡ b) → ¬ ((¬ Before a b) × (¬ Before b a))
  pub not_both : (a b : A) → ¬ (a ≡ b) → ¬ (Before a b × Before b a)
  pub chain : (a b c : A) → Before a b → Before b c → Before a c

-- `a` and `b` are different letters, and `a` is the smaller one.
abbrev pub Smaller {ℓ κ} : {A : Type ℓ} → Letters {ℓ, κ} A → A → A → Type (ℓ ⊔ κ)
Smaller O a b = (¬ (a ≡ b)) × O.Before a b

-- The order turned round (document 01: "Order 1, falling, turns the comparison of letters round").
abbrev pub reversed {ℓ κ} : {A : Type ℓ} → Letters {ℓ, κ} A → Letters {ℓ, κ} A
reversed O =
    record {
      Before = λ a b. O.Before b a;
      not_neither = λ a b d p. O.not_neither a b d (p.1, p.0);
      not_both = λ a b d p. O.not_both a b d (p.1, p.0);
      chain = λ a b c h k. O.chain c b a k h;
    }

pub number_not_neither : (a b : ℕ) → ¬ (a ≡ b) → ¬ ((¬ (a < b)) × (¬ (b < a)))
number_not_neither a b d p = d (omega (arith, p.0, p.1))

pub number_not_both : (a b : ℕ) → ¬ (a ≡ b) → ¬ ((a < b) × (b < a))
number_not_both a b d p = omega (arith, p.0, p.1)

pub number_chain : (a b c : ℕ) → a < b → b < c → a < c
number_chain a b c h k = omega arith

-- Order 0, rising: numbers compared by size. Bytes and 32-bit numbers are numbers here, so both widths use it.
abbrev pub rising : Letters {0, 0} ℕ
rising =
    record { Before = ◌<◌; not_neither = number_not_neither; not_both = number_not_both; chain = number_chain }

-- Order 1, falling.
abbrev pub falling : Letters {0, 0} ℕ
falling = reversed rising

-- The order that an order number stands for (document 01: order 0 is rising, order 1 falling). Every number but 0 gives falling here; the
-- calls never ask for the order of a number above 1.
abbrev pub order_of : ℕ → Letters {0, 0} ℕ
order_of zero = rising
order_of (suc k) = falling
