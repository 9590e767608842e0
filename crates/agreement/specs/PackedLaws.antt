-- Bytes packed into one number: the row comes back, and two rows agree on as many bytes as the zeros at the low end of the exclusive or of their
-- numbers make, divided by eight.
-- Assumes nothing.
use Rattle.std.specs.Prelude.{◌≡◌, refl, Bool, true, false, List, [], ◌∷◌, ℕ, zero, suc, ◌+◌, ◌*◌, ◌/◌, ◌%◌, ◌^◌, ◌<◌, ◌≤◌, eqb, length}
use Rattle.std.proofs.Common.{sym, ap, ap₂, subst, ◌∙◌, arith, pow-suc, div-add-mod', mod-lt, zero-lt-suc, eqb-true}
use Rattle.std.specs.Int.Bits.{bit_xor, xor_self, xor_add_and, block_half, block_odd}
use Rattle.std.proofs.lemmas.Nat.{xor_lt, xor_shr, xor_mod, and_le_l, and_le_r, trailing_le}
use Rattle.std.specs.Int.Count.{count_trailing_zeros, under}
use Rattle.std.proofs.lemmas.Bool.{eqb-false}
use Rattle.letters.specs.RankLaws.{Bytes}
use Rattle.agreement.specs.CommonPrefix.{common_prefix}
use Rattle.agreement.specs.Packed.{packed, unpacked}

-- Numbers whose exclusive or is 0 are equal.
xor_equal : (a b : ℕ) → bit_xor a b ≡ 0 → a ≡ b
xor_equal a b e = omega (arith, xor_add_and a b, and_le_l a b, and_le_r a b, e)

-- One digit more: a number's zeros by its lowest digit and its half.
trailing_step : (j m n : ℕ) → count_trailing_zeros (suc j + m) n ≡ under (n % 2) (count_trailing_zeros (j + m) (n / 2))
unfolding count_trailing_zeros
trailing_step j m n = let one : suc j + m ≡ suc (j + m) = omega arith in ap (λ (k : ℕ). count_trailing_zeros k n) one

-- The zeros at the low end of a number whose j lowest digits make r: where r is 0 all j and those of the rest, else fewer than j.
module _ (m a : ℕ) where
  halved : (j r : ℕ) → count_trailing_zeros (suc j + m) (a * 2 ^ suc j + r) ≡ under (r % 2) (count_trailing_zeros (j + m) (a * 2 ^ j + r / 2))
  halved j r = trailing_step j m (a * 2 ^ suc j + r) ∙ ap₂ under (block_odd a j r) (ap (count_trailing_zeros (j + m)) (block_half a j r))

  trailing_all : (j : ℕ) → count_trailing_zeros (j + m) (a * 2 ^ j + 0) ≡ j + count_trailing_zeros m a
  trailing_all zero =
      let digits : 0 + m ≡ m = omega arith in
      let number : a * 1 + 0 ≡ a = omega arith in
      ap₂ count_trailing_zeros digits number ∙ omega arith
  trailing_all (suc j) = halved j 0 ∙ ap suc (trailing_all j) ∙ omega arith

  trailing_fewer : (j r : ℕ) → r < 2 ^ j → 0 < r → count_trailing_zeros (j + m) (a * 2 ^ j + r) < j
  trailing_fewer zero r l h = absurd (omega arith)
  trailing_fewer (suc j) r l h =
      subst (λ (t : ℕ). t < suc j) (sym (halved j r)) (go (λ e. trailing_fewer j (r / 2) (omega (arith, pow-suc 2 j)) (omega (arith, e))) (r % 2) refl)
    where
      go : (r % 2 ≡ 0 → count_trailing_zeros (j + m) (a * 2 ^ j + r / 2) < j) → (d : ℕ) → r % 2 ≡ d →
          under d (count_trailing_zeros (j + m) (a * 2 ^ j + r / 2)) < suc j
      go rest zero e = let fewer = rest e in omega (arith, fewer)
      go rest (suc d) e = omega arith

-- Two numbers agree on as many of their m lowest bytes, from the lowest on, as the zeros at the low end of their exclusive or make, divided by eight.
pub trailing_bytes : (m x y : ℕ) → count_trailing_zeros (8 * m) (bit_xor x y) / 8 ≡ common_prefix (unpacked m x) (unpacked m y)
unfolding unpacked
trailing_bytes zero x y = let none : count_trailing_zeros 0 (bit_xor x y) ≤ 0 = trailing_le 0 (bit_xor x y) in omega (arith, none)
trailing_bytes (suc m) x y = go (trailing_bytes m (x / 256) (y / 256)) (eqb (x % 256) (y % 256)) refl
  where
    above : ℕ
    above = bit_xor (x / 256) (y / 256)

    lowest : ℕ
    lowest = bit_xor (x % 256) (y % 256)

    -- The zeros by the bytes above and the lowest.
    parts : count_trailing_zeros (8 * suc m) (bit_xor x y) ≡ count_trailing_zeros (8 + 8 * m) (above * 2 ^ 8 + lowest)
    parts =
        ap₂ count_trailing_zeros (omega arith)
        (sym (div-add-mod' (bit_xor x y) (2 ^ 8)) ∙ ap₂ (λ (b r : ℕ). b * 2 ^ 8 + r) (xor_shr x y 8) (xor_mod x y 8))

    go : count_trailing_zeros (8 * m) above / 8 ≡ common_prefix (unpacked m (x / 256)) (unpacked m (y / 256)) → (t : Bool) → eqb (x % 256) (y % 256) ≡ t →
        count_trailing_zeros (8 * suc m) (bit_xor x y) / 8 ≡ elim t [ true ↦ suc (common_prefix (unpacked m (x / 256)) (unpacked m (y / 256))) | false ↦ 0 ]
    go rest true e =
        let same : lowest ≡ 0 = ap (bit_xor (x % 256)) (sym (eqb-true (x % 256) (y % 256) e)) ∙ xor_self (x % 256) in
        let zeros = parts ∙ ap (λ (r : ℕ). count_trailing_zeros (8 + 8 * m) (above * 2 ^ 8 + r)) same ∙ trailing_all (8 * m) above 8 in
        omega (arith, zeros, rest)
    go rest false e =
        let apart : ¬ (lowest ≡ 0) = λ z. eqb-false (x % 256) (y % 256) e (xor_equal (x % 256) (y % 256) z) in
        let low : lowest < 2 ^ 8 = xor_lt 8 (x % 256) (y % 256) (mod-lt x (zero-lt-suc 255)) (mod-lt y (zero-lt-suc 255)) in
        let fewer = trailing_fewer (8 * m) above 8 lowest low (omega (arith, apart)) in
        omega (arith, parts, fewer)

-- The bytes of a row come back.
pub unpacked_packed : (u : List ℕ) → Bytes u → unpacked (length u) (packed u) ≡ u
unfolding unpacked
unpacked_packed [] bytes = refl
unpacked_packed (a ∷ u) bytes =
    let small : a < 256 = bytes.byte 0 in
    let low : (packed u * 256 + a) % 256 ≡ a = omega arith in
    let rest : (packed u * 256 + a) / 256 ≡ packed u = omega arith in
    ap₂ (λ (b : ℕ) (x : List ℕ). b ∷ x) low
    (ap (unpacked (length u)) rest ∙ unpacked_packed u (record { byte = λ i. bytes.byte (suc i) }))

-- Two rows of eight bytes.
module _ (u v : List ℕ) (p : length u ≡ 8) (q : length v ≡ 8) (bytes_u : Bytes u) (bytes_v : Bytes v) where
  -- They agree on as many bytes as their numbers do.
  pub eight_unpacked : common_prefix (unpacked 8 (packed u)) (unpacked 8 (packed v)) ≡ common_prefix u v
  eight_unpacked =
      ap₂ common_prefix
      (ap (λ (m : ℕ). unpacked m (packed u)) (sym p) ∙ unpacked_packed u bytes_u)
      (ap (λ (m : ℕ). unpacked m (packed v)) (sym q) ∙ unpacked_packed v bytes_v)

  -- For a reader, document 01's form: the zeros at the low end of the exclusive or of their numbers, divided by eight. Proofs use its two parts.
  pub eight_bytes : count_trailing_zeros 64 (bit_xor (packed u) (packed v)) / 8 ≡ common_prefix u v
  eight_bytes = trailing_bytes 8 (packed u) (packed v) ∙ eight_unpacked
