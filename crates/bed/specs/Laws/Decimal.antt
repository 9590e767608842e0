-- The decimal digits of a number by its last one, and how many there are.
-- Assumes nothing.
use Rattle.std.specs.Prelude.{◌≡◌, refl, Bool, true, false, List, [], ◌∷◌, ◌++◌, ℕ, zero, suc, ◌+◌, ◌*◌, ◌/◌, ◌%◌, ◌^◌, ◌≤◌, ◌<◌, ltb, length}
use Rattle.std.proofs.Common.{sym, ap, ◌∙◌, arith, pow-suc, lt-ltb, le-ltb, ltb-false, length-append}
use Rattle.std.proofs.Math.Decide.{dec_lt}
use Rattle.bed.specs.Decimal.{digit, decimal_within, decimal_of}

-- The digits of n from its last one, where k bounds them.
abbrev digits_by : ℕ → ℕ → Bool → List ℕ
digits_by k n t = elim t [ true ↦ digit n ∷ [] | false ↦ decimal_within k (n / 10) ++ (digit (n % 10) ∷ []) ]

one_digit : (k n : ℕ) → n < 10 → decimal_within k n ≡ digit n ∷ []
one_digit zero n h = refl
one_digit (suc k) n h = ap (digits_by k n) (lt-ltb n 10 h)

-- Any bound that is large enough gives the same digits.
within_any : (k m n : ℕ) → n ≤ k → n ≤ m → decimal_within k n ≡ decimal_within m n
within_any zero m n h l = sym (one_digit m n (omega arith))
within_any (suc k) zero n h l = one_digit (suc k) n (omega arith)
within_any (suc k) (suc m) n h l = go (ltb n 10) refl (within_any k m (n / 10))
  where
    go : (t : Bool) → ltb n 10 ≡ t → (n / 10 ≤ k → n / 10 ≤ m → decimal_within k (n / 10) ≡ decimal_within m (n / 10))
        → digits_by k n t ≡ digits_by m n t
    go true e r = refl
    go false e r =
        let g : 10 ≤ n = ltb-false n 10 e in
        ap (λ (l : List ℕ). l ++ (digit (n % 10) ∷ [])) (r (omega arith) (omega arith))

pub decimal_one : (n : ℕ) → n < 10 → decimal_of n ≡ digit n ∷ []
decimal_one n h = one_digit n n h

pub decimal_more : (n : ℕ) → 10 ≤ n → decimal_of n ≡ decimal_of (n / 10) ++ (digit (n % 10) ∷ [])
decimal_more zero h = absurd (omega arith)
decimal_more (suc k) h =
    ap (digits_by k (suc k)) (le-ltb (suc k) 10 h)
    ∙ ap (λ (l : List ℕ). l ++ (digit (suc k % 10) ∷ [])) (within_any k (suc k / 10) (suc k / 10) (omega arith) (omega arith))

pub decimal_length_more : (n : ℕ) → 10 ≤ n → length (decimal_of n) ≡ length (decimal_of (n / 10)) + 1
decimal_length_more n h = ap length (decimal_more n h) ∙ length-append (decimal_of (n / 10)) (digit (n % 10) ∷ [])

-- A number below 10 to the k + 1 has at most k + 1 digits.
pub decimal_length : (k n : ℕ) → n < 10 ^ suc k → length (decimal_of n) ≤ suc k
decimal_length zero n h = omega (arith, ap length (decimal_one n h))
decimal_length (suc k) n h = go (dec_lt n 10) (decimal_length k (n / 10))
  where
    go : Dec (n < 10) → (n / 10 < 10 ^ suc k → length (decimal_of (n / 10)) ≤ suc k) → length (decimal_of n) ≤ suc (suc k)
    go (yes l) r = omega (arith, ap length (decimal_one n l))
    go (no l) r =
        let p : 10 ^ suc (suc k) ≡ 10 ^ suc k * 10 = pow-suc 10 (suc k) in
        let m : length (decimal_of (n / 10)) ≤ suc k = r (omega arith) in
        omega (arith, decimal_length_more n (omega arith))
