-- Eight bytes of each of two words, packed: what the tests of the code show of the words.
-- Assumes nothing.
use mathlib.Core.Path.{◌≡◌, sym, ap, ap₂, subst, ◌∙◌}
use mathlib.Core.List.{List}
use Prim.Native.Nat.{ℕ, min, ◌+◌, ◌-◌, ◌*◌, ◌/◌, ◌%◌, ◌<◌, ◌≤◌}
use native.Mathlib.Omega.{arith}
use native.Mathlib.Decide.{dec_lt}
use native.Mathlib.Nat.{min-le_left, min-le_right}
use lib.Bits.{bit_xor}
use lib.Count.{count_trailing_zeros}
use lib.ListN.{length, take, drop, length-take, length-drop}
use lib.Seq.{length-take-le, get_or-take, get_or-drop}
use Rattle.letters.specs.Ranks.{rank_row}
use Rattle.letters.specs.RankLaws.{Bytes, bytes_inside, fitting_bytes, row_length}
use Rattle.agreement.specs.CommonPrefix.{common_prefix}
use Rattle.agreement.specs.CommonPrefixLaws.{AlikeBelow, common_prefix_agreement, alike_part, common_rest, rests_agree, common_self, common_all}
use Rattle.agreement.specs.Packed.{packed, unpacked}
use Rattle.agreement.specs.PackedLaws.{eight_unpacked, trailing_bytes}
use Rattle.agreement.proofs.RankedAgreement.{rows_alike, bytes_then_differ}

-- The zeros at the low end of 64 bits, by eights.
pub trailing_eight : (x y : ℕ) → count_trailing_zeros 64 (bit_xor x y) / 8 ≡ common_prefix (unpacked 8 x) (unpacked 8 y)
trailing_eight = trailing_bytes 8

-- A part of a text of bytes is one of bytes.
part_bytes : (x : List ℕ) (k m : ℕ) → Bytes x → Bytes (take m (drop k x))
part_bytes x k m bytes =
    bytes_inside (take m (drop k x)) (λ i l.
    subst (λ (a : ℕ). a < 256) (sym (get_or-take m (drop k x) i 0 (omega (arith, length-take m (drop k x), l)) ∙ get_or-drop k x i 0)) (bytes.byte (k + i)))

-- Two words agree below k, a multiple of eight below m, the length of the shorter one; x and y are the numbers of their eight bytes from there on.
module _ (u v : List ℕ) (m k x y : ℕ) (least : m ≡ min (length u) (length v)) (w : AlikeBelow u v k) (eights : k % 8 ≡ 0) (inside : k < m / 8 * 8)
    (bytes_u : Bytes u) (bytes_v : Bytes v) (is_x : x ≡ packed (take 8 (drop k u))) (is_y : y ≡ packed (take 8 (drop k v))) where
  in_u : k + 8 ≤ length u
  in_u = omega (arith, min-le_left (length u) (length v))

  in_v : k + 8 ≤ length v
  in_v = omega (arith, min-le_right (length u) (length v))

  size_u : length (take 8 (drop k u)) ≡ 8
  size_u = length-take-le 8 (drop k u) (omega (arith, length-drop k u, in_u))

  size_v : length (take 8 (drop k v)) ≡ 8
  size_v = length-take-le 8 (drop k v) (omega (arith, length-drop k v, in_v))

  parts : (r : ℕ) → r ≡ common_prefix (unpacked 8 x) (unpacked 8 y) → r ≡ common_prefix (take 8 (drop k u)) (take 8 (drop k v))
  parts r e =
      e ∙ ap₂ (λ (a b : ℕ). common_prefix (unpacked 8 a) (unpacked 8 b)) is_x is_y ∙
      eight_unpacked (take 8 (drop k u)) (take 8 (drop k v)) size_u size_v (part_bytes u k 8 bytes_u) (part_bytes v k 8 bytes_v)

  -- They agree on as many letters more as the two rows of bytes do,
  pub eight_more : (r : ℕ) → r ≡ common_prefix (unpacked 8 x) (unpacked 8 y) → AlikeBelow u v (k + r)
  eight_more r e = alike_part u v k 8 r w in_u in_v (parts r e)

  -- on all eight where the numbers are equal,
  pub eight_equal : x ≡ y → AlikeBelow u v (k + 8)
  unfolding unpacked
  eight_equal e = eight_more 8 (sym (common_self (unpacked 8 x)) ∙ ap (λ (z : ℕ). common_prefix (unpacked 8 x) (unpacked 8 z)) e)

  -- and on fewer where they are not.
  few : (r : ℕ) → r ≡ common_prefix (unpacked 8 x) (unpacked 8 y) → ¬ (x ≡ y) → r < 8
  few r e d = go (dec_lt r 8)
    where
      same : 8 ≤ r → x ≡ y
      same l =
          is_x ∙
          ap packed (common_all (take 8 (drop k u)) (take 8 (drop k v)) (size_u ∙ sym size_v) (omega (arith, parts r e, size_u, l))) ∙
          sym is_y

      go : Dec (r < 8) → r < 8
      go (yes l) = l
      go (no l) = absurd (d (same (omega (arith, l))))

  pub inside_left : (r : ℕ) → r ≡ common_prefix (unpacked 8 x) (unpacked 8 y) → ¬ (x ≡ y) → k + r < length u
  inside_left r e d = omega (arith, in_u, few r e d)

  pub inside_right : (r : ℕ) → r ≡ common_prefix (unpacked 8 x) (unpacked 8 y) → ¬ (x ≡ y) → k + r < length v
  inside_right r e d = omega (arith, in_v, few r e d)

-- The bytes below k agree, and the rests by rank on r letters.
module _ (ranks u v : List ℕ) (k r : ℕ) (w : AlikeBelow u v k)
    (e : r ≡ common_prefix (rank_row ranks (take (length u - k) (drop k u))) (rank_row ranks (take (length v - k) (drop k v)))) where
  pub rests_counted : k + r ≡ common_prefix (rank_row ranks u) (rank_row ranks v)
  rests_counted =
      ap (λ (s : ℕ). k + s) (rests_agree ranks u v k k r e) ∙
      common_rest (rank_row ranks u) (rank_row ranks v) k (rows_alike ranks u v k w)

  pub rests_within : k + r ≤ length u
  rests_within = omega (arith, rests_counted, (common_prefix_agreement (rank_row ranks u) (rank_row ranks v)).in_left, row_length ranks u)

-- What a turn of the loop shows.
pub ruleset eights = (fitting_bytes, eight_more, eight_equal, inside_left, inside_right, bytes_then_differ)

-- What is behind the loop.
pub ruleset rests = (rests_counted, rests_within)
