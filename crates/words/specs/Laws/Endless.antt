-- Endless copies of a word, letter by letter, and rows without end that repeat.
-- Assumes nothing.
use Rattle.std.specs.Prelude.{◌≡◌, List, ℕ, zero, suc, ◌+◌, ◌-◌, ◌%◌, ◌<◌, length}
use Rattle.std.proofs.Common.{sym, ap, ◌∙◌, arith, mod-lt}
use Rattle.std.proofs.Math.Option.{some}
use Rattle.std.proofs.Math.Decide.{dec_lt}
use Rattle.std.proofs.Math.Nat.{add-mod_right}
use Rattle.words.specs.InfiniteOrder.{endless}
use Rattle.words.specs.Compute.InfiniteOrder.{copied}
use Rattle.words.specs.Laws.SpanLyndon.{letters}
use Rattle.words.specs.Laws.Periods.{get_elem?_letter}

-- Letters a apart are the same, without end.
abbrev pub Repeats {ℓ} : {A : Type ℓ} → (ℕ → A) → ℕ → Type ℓ
Repeats f a = (k : ℕ) → f (k + a) ≡ f k

module _ {ℓ} {A : Type ℓ} (z : A) (u : List A) where
  pub endless_letter : 0 < length u → (k : ℕ) → endless u k ≡ some (copied z u k)
  endless_letter h k = get_elem?_letter z u (k % length u) (mod-lt k h)

  pub copied_repeats : Repeats (copied z u) (length u)
  copied_repeats k = ap (letters z u) (add-mod_right k (length u))

-- Two rows that repeat after a and after b letters are the same if their first a + b letters are.
pub agree_forever {ℓ} : {A : Type ℓ} (f g : ℕ → A) (a b : ℕ) → 0 < a → 0 < b → Repeats f a → Repeats g b → ((k : ℕ) → k < a + b → f k ≡ g k) →
    (k : ℕ) → f k ≡ g k
agree_forever f g a b p q r s h k = below (suc k) k (omega arith)
  where
    below : (fuel k : ℕ) → k < fuel → f k ≡ g k
    below zero k l = absurd (omega arith)
    below (suc fuel) k l = go (dec_lt k (a + b)) (below fuel)
      where
        go : Dec (k < a + b) → ((i : ℕ) → i < fuel → f i ≡ g i) → f k ≡ g k
        go (yes m) rest = h k m
        go (no m) rest =
            let i : ℕ = k - (a + b) in
            let e : k ≡ i + b + a = omega (arith, m) in
            let d : i + a + b ≡ k = omega (arith, m) in
            ap f e ∙ r (i + b) ∙ rest (i + b) (omega arith) ∙ s i ∙ sym (rest i (omega arith)) ∙ sym (r i) ∙ rest (i + a) (omega arith) ∙
            sym (s (i + a)) ∙ ap g d
