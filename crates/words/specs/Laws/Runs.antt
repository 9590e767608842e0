-- A run has one period; entries in order, and the numbers of a list of them. That a text has one run list: `proofs/Laws/Runs`.
-- Assumes nothing.
use Rattle.std.specs.Prelude.{◌≡◌, refl, ◌⊎◌, ℕ, ◌*◌, ◌<◌, ◌≤◌, length}
use Rattle.std.proofs.Common.{ap, inl, inr, arith}
use mathlib.Core.List.{List, [], ◌∷◌, ◌++◌, Memᴰ}
use Rattle.words.specs.Runs.{HasPeriod, Run, Entry, Earlier, numbers}
use Rattle.words.specs.Laws.Numbers.{least_unique}

-- Runs with one start and one end have one period.
pub run_period_unique {ℓ} : {A : Type ℓ} {x : List A} {s e p q : ℕ} → Run x s e p → Run x s e q → p ≡ q
run_period_unique {x = x} {s = s} {e = e} {p = p} {q = q} r t =
    least_unique (λ k. (0 < k) × HasPeriod x s e k) (r.positive, r.period) (λ k l h. r.smallest k h.0 l h.1)
    (t.positive, t.period) (λ k l h. t.smallest k h.0 l h.1)

-- Entries with the same numbers are equal.
pub entry_equal : (r t : Entry) → r.start ≡ t.start → r.last ≡ t.last → r.period ≡ t.period → r ≡ t
entry_equal r t a b c = λ i. record { start = a i; last = b i; period = c i }

-- Of two entries at most one is earlier than the other.
pub earlier_not_both : (r t : Entry) → Earlier r t → Earlier t r → ⊥
earlier_not_both r t (inl h) (inl k) = omega arith
earlier_not_both r t (inl h) (inr k) = omega arith
earlier_not_both r t (inr h) (inl k) = omega arith
earlier_not_both r t (inr h) (inr k) = omega arith

-- The numbers of joined lists, and how many there are.
pub numbers_append : (rs ts : List Entry) → numbers (rs ++ ts) ≡ numbers rs ++ numbers ts
numbers_append [] ts = refl
numbers_append (r ∷ rs) ts = ap (λ (ns : List ℕ). r.start ∷ r.last ∷ r.period ∷ ns) (numbers_append rs ts)

pub numbers_length : (rs : List Entry) → length (numbers rs) ≡ 3 * length rs
numbers_length [] = refl
numbers_length (r ∷ rs) = omega (arith, numbers_length rs)

-- By start and then by last position, equal ones in any order.
abbrev pub NotLater : Entry → Entry → Type 0
NotLater r t = (r.start < t.start) ⊎ ((r.start ≡ t.start) × (r.last ≤ t.last))

-- No entry is later than one that follows it.
abbrev pub InOrder : List Entry → Type 0
InOrder [] = Unit {0}
InOrder (r ∷ rs) = ((t : Entry) → Memᴰ t rs → NotLater r t) × InOrder rs
