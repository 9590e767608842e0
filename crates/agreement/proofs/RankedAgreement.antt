-- Words that agree letter by letter in rank: what the tests of the code show.
-- Assumes nothing.
use mathlib.Core.Path.{◌≡◌, refl, sym, ap, ◌∙◌}
use mathlib.Core.Bool.{Bool, true, false, not, cond}
use mathlib.Core.List.{List, [], ◌∷◌}
use Prim.Native.Nat.{ℕ, zero, suc, min, ◌+◌, ◌<◌}
use native.Mathlib.Omega.{arith}
use lib.Dec.{eqb}
use lib.ListN.{length, get_or, take}
use Rattle.std.specs.List.{prefix_len, zip}
use Rattle.letters.specs.Ranks.{rank_by, rank_row, rank_differs}
use Rattle.letters.specs.RankLaws.{row_length, row_letter, places_differ}
use Rattle.agreement.specs.CommonPrefix.{common_prefix}
use Rattle.agreement.specs.CommonPrefixLaws.{AlikeBelow, alike_differs}

module _ (ranks : List ℕ) where
  -- Two letters with one rank.
  abbrev pub alike : ℕ × ℕ → Bool
  alike p = not (rank_differs ranks p.0 p.1)

  -- The pairs of letters of two words, as far as the shorter one goes: as many from the first on have one rank as the rows agree on.
  pub pairs_counted : (u v : List ℕ) (n : ℕ) → n ≡ min (length u) (length v) →
      prefix_len alike (zip (take n u) (take n v)) ≡ common_prefix (rank_row ranks u) (rank_row ranks v)
  pairs_counted [] v zero e = refl
  pairs_counted [] v (suc n) e = absurd (omega arith)
  pairs_counted (a ∷ u) [] zero e = refl
  pairs_counted (a ∷ u) [] (suc n) e = absurd (omega arith)
  pairs_counted (a ∷ u) (b ∷ v) zero e = absurd (omega arith)
  pairs_counted (a ∷ u) (b ∷ v) (suc n) e = go (eqb (rank_by ranks a) (rank_by ranks b)) (pairs_counted u v n (omega arith))
    where
      go : (t : Bool) → prefix_len alike (zip (take n u) (take n v)) ≡ common_prefix (rank_row ranks u) (rank_row ranks v) →
          cond (not (not t)) (1 + prefix_len alike (zip (take n u) (take n v))) 0
          ≡ elim t [ true ↦ suc (common_prefix (rank_row ranks u) (rank_row ranks v)) | false ↦ 0 ]
      go true rest = omega (arith, rest)
      go false rest = refl

  -- Equal bytes have one rank.
  pub rows_alike : (u v : List ℕ) (k : ℕ) → AlikeBelow u v k → AlikeBelow (rank_row ranks u) (rank_row ranks v) k
  rows_alike u v k w =
      record {
        in_left = omega (arith, w.in_left, row_length ranks u);
        in_right = omega (arith, w.in_right, row_length ranks v);
        alike = λ t h.
            row_letter ranks u t (omega (arith, w.in_left)) ∙ ap (rank_by ranks) (w.alike t h) ∙ sym (row_letter ranks v t (omega (arith, w.in_right)));
      }

  -- The bytes below k agree, and the ranks at k differ.
  pub bytes_then_differ : (u v : List ℕ) (k : ℕ) {r : Bool} → AlikeBelow u v k → k < length u → k < length v →
      r ≡ rank_differs ranks (get_or u k 0) (get_or v k 0) → r ≡ true → k ≡ common_prefix (rank_row ranks u) (rank_row ranks v)
  bytes_then_differ u v k w p q e differ =
      alike_differs (rank_row ranks u) (rank_row ranks v) k (rows_alike u v k w) (places_differ ranks u v k k p q e differ)
