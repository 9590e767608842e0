-- The starts of a factorization divide the text into spans that are not empty.
-- Assumes nothing.
use Rattle.std.specs.Prelude.{◌≡◌, refl, ◌↔◌, ℕ, zero, suc, ◌+◌, ◌<◌, ◌≤◌, length, get_or}
use Rattle.std.proofs.Common.{sym, ap, arith, length-append}
use mathlib.Core.List.{List, [], ◌∷◌, cons≢nil}
use Rattle.std.proofs.Math.Decide.{dec_lt}
use Rattle.words.specs.Letters.{Letters}
use Rattle.words.specs.Lyndon.{Lyndon}
use Rattle.words.specs.Factorization.{joined, AllLyndon, starts, IsFactorization}

-- The numbers of s divide the span from i to n: the first is i, each is smaller than the next, and the last is smaller than n.
abbrev pub Divides : ℕ → List ℕ → ℕ → Type 0
Divides i [] n = i ≡ n
Divides i (a ∷ s) n = (i ≡ a) × (a < get_or s 0 n) × Divides (get_or s 0 n) s n

-- Words one after another from i on: the first of their starts is i, also where there is no word.
first_of_starts {ℓ} : {A : Type ℓ} (i : ℕ) (us : List (List A)) → get_or (starts i us) 0 (i + length (joined us)) ≡ i
first_of_starts i [] = omega arith
first_of_starts i (u ∷ us) = refl

lyndon_positive {ℓ κ} : {A : Type ℓ} (O : Letters {ℓ, κ} A) (u : List A) → Lyndon O u → 0 < length u
lyndon_positive O [] l = absurd (l.non_empty refl)
lyndon_positive O (a ∷ u) l = omega arith

-- The starts of Lyndon words one after another divide their span.
pub starts_divide {ℓ κ} : {A : Type ℓ} (O : Letters {ℓ, κ} A) (i : ℕ) (us : List (List A)) (n : ℕ) → AllLyndon O us
    → n ≡ i + length (joined us) → Divides i (starts i us) n
starts_divide O i [] n l e = omega arith
starts_divide O i (u ∷ us) n l e =
    let z : n ≡ (i + length u) + length (joined us) = omega (arith, length-append u (joined us)) in
    let f : get_or (starts (i + length u) us) 0 n ≡ i + length u = rw z (first_of_starts (i + length u) us) in
    (refl, omega (arith, lyndon_positive O u l.0), rw f (starts_divide O (i + length u) us n l.1 z))

-- No number of a division is greater than its end.
pub division_reaches : (i : ℕ) (s : List ℕ) (n : ℕ) → Divides i s n → (k : ℕ) → get_or s k n ≤ n
division_reaches i [] n d k = omega arith
division_reaches i (a ∷ s) n d zero = omega (arith, division_reaches (get_or s 0 n) s n d.2 zero)
division_reaches i (a ∷ s) n d (suc k) = division_reaches (get_or s 0 n) s n d.2 k

-- Each number of a division is smaller than the next.
pub division_rises : (i : ℕ) (s : List ℕ) (n : ℕ) → Divides i s n → (k : ℕ) → k < length s → get_or s k 0 < get_or s (suc k) n
division_rises i [] n d k h = absurd (omega arith)
division_rises i (a ∷ s) n d zero h = d.1
division_rises i (a ∷ s) n d (suc k) h = division_rises (get_or s 0 n) s n d.2 k (omega arith)

-- A division starts with its span.
pub division_starts : (s : List ℕ) (n : ℕ) → Divides 0 s n → get_or s 0 0 ≡ 0
division_starts [] n d = refl
division_starts (a ∷ s) n d = sym d.0

-- The part of a division that holds position j.
pub record Holding (s : List ℕ) (n j : ℕ) : Type 0 where
  pub part : ℕ
  pub is_part : part < length s
  pub started : get_or s part 0 ≤ j
  pub ends_after : j < get_or s (suc part) n

-- Each position of a divided span is in one of the parts.
pub division_holding : (i : ℕ) (s : List ℕ) (n : ℕ) → Divides i s n → (j : ℕ) → i ≤ j → j < n → Holding s n j
division_holding i [] n d j a b = absurd (omega arith)
division_holding i (c ∷ s) n d j a b = go (dec_lt j (get_or s 0 n)) (division_holding (get_or s 0 n) s n d.2 j)
  where
    go : Dec (j < get_or s 0 n) → (get_or s 0 n ≤ j → j < n → Holding s n j) → Holding (c ∷ s) n j
    go (yes h) r = record { part = 0; is_part = omega arith; started = omega arith; ends_after = h }
    go (no h) r =
        let p : Holding s n j = r (omega arith) b in
        record {
          part = suc p.part;
          is_part = omega arith;
          started = p.started;
          ends_after = p.ends_after;
        }

module _ {ℓ κ} {A : Type ℓ} {O : Letters {ℓ, κ} A} {x : List A} {s : List ℕ} (f : IsFactorization O x s) where
  -- The starts of the factors divide the text.
  pub factors_divide : Divides 0 s (length x)
  factors_divide =
      rw f.places
      (starts_divide O 0 f.factors (length x) f.lyndon (omega (arith, ap length f.whole)))

  -- Each factor starts before it ends, and so before the next one starts.
  pub starts_rise : (k : ℕ) → k < length s → get_or s k 0 < get_or s (suc k) (length x)
  starts_rise = division_rises 0 s (length x) factors_divide

  -- No factor ends after the text.
  pub ends_inside : (k : ℕ) → get_or s k (length x) ≤ length x
  ends_inside = division_reaches 0 s (length x) factors_divide

  -- Each factor starts inside the text.
  pub starts_inside : (k : ℕ) → k < length s → get_or s k 0 < length x
  starts_inside k h = omega (arith, starts_rise k h, ends_inside (suc k))

  -- The first factor starts at 0.
  pub first_start : get_or s 0 0 ≡ 0
  first_start = division_starts s (length x) factors_divide

  -- There is no factor exactly where there is no letter.
  pub no_factors : (s ≡ []) ↔ (x ≡ [])
  no_factors = go s x factors_divide
    where
      go : (s : List ℕ) (x : List A) → Divides 0 s (length x) → (s ≡ []) ↔ (x ≡ [])
      go [] [] d = (λ e. refl, λ e. refl)
      go [] (b ∷ y) d = absurd (omega arith)
      go (a ∷ r) [] d = absurd (omega (arith, division_reaches (get_or r 0 0) r 0 d.2 0))
      go (a ∷ r) (b ∷ y) d = (λ e. absurd (cons≢nil e), λ e. absurd (cons≢nil e))

  -- Each position of the text is in one of the factors.
  pub factor_holding : (j : ℕ) → j < length x → Holding s (length x) j
  factor_holding j h = division_holding 0 s (length x) factors_divide j (omega arith) h
