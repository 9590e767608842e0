-- The longest common prefix is the number of letters that a comparison from the left finds alike.
-- Assumes nothing.
use Rattle.std.specs.Prelude.{◌≡◌, refl, Bool, true, false, List, [], ◌∷◌, ℕ, zero, suc, ◌+◌, ◌-◌, ◌<◌, ◌≤◌, eqb, length, get_or, take, drop}
use Rattle.std.proofs.Common.{sym, ap, ap₂, subst, ◌∙◌, arith, eqb→eq, length-drop, length-take-le, get_or-take, get_or-drop, ext_get_or, eq-eqb}
use Rattle.std.proofs.Math.Decide.{dec_lt}
use Rattle.letters.specs.Ranks.{rank_row}
use Rattle.letters.specs.RankLaws.{row_rest}
use Rattle.agreement.specs.CommonPrefix.{common_prefix}

-- What that number says.
pub record Agreement (u v : List ℕ) (r : ℕ) : Type 0 where
  pub in_left : r ≤ length u
  pub in_right : r ≤ length v
  pub alike : (k : ℕ) → k < r → get_or u k 0 ≡ get_or v k 0
  pub differ : r < length u → r < length v → ¬ (get_or u r 0 ≡ get_or v r 0)

pub common_prefix_agreement : (u v : List ℕ) → Agreement u v (common_prefix u v)
common_prefix_agreement [] v =
    record { in_left = omega arith; in_right = omega arith; alike = λ k h. absurd (omega arith); differ = λ h. absurd (omega arith) }
common_prefix_agreement (a ∷ u) [] =
    record { in_left = omega arith; in_right = omega arith; alike = λ k h. absurd (omega arith); differ = λ h g. absurd (omega arith) }
common_prefix_agreement (a ∷ u) (b ∷ v) = go (eqb a b) refl (common_prefix_agreement u v)
  where
    go : (t : Bool) → eqb a b ≡ t → Agreement u v (common_prefix u v) → Agreement (a ∷ u) (b ∷ v) (elim t [ true ↦ suc (common_prefix u v) | false ↦ 0 ])
    go true e w =
        record {
          in_left = omega (arith, w.in_left);
          in_right = omega (arith, w.in_right);
          alike = alike;
          differ = λ h g. w.differ (omega arith) (omega arith);
        }
      where
        alike : (k : ℕ) → k < suc (common_prefix u v) → get_or (a ∷ u) k 0 ≡ get_or (b ∷ v) k 0
        alike zero h = eqb→eq a b (rw e tt)
        alike (suc k) h = w.alike k (omega arith)
    go false e w =
        record {
          in_left = omega arith;
          in_right = omega arith;
          alike = λ k h. absurd (omega arith);
          differ = λ h g z. let q : eqb a b ≡ true = eq-eqb a b z in let y : ◌≡◌ {A = ℕ} 0 1 = cc in omega arith;
        }

-- It is the only number that says so.
agreement_is : (u v : List ℕ) (r : ℕ) → Agreement u v r → r ≡ common_prefix u v
agreement_is u v r w = go (dec_lt r (common_prefix u v)) (dec_lt (common_prefix u v) r)
  where
    c : Agreement u v (common_prefix u v)
    c = common_prefix_agreement u v

    go : Dec (r < common_prefix u v) → Dec (common_prefix u v < r) → r ≡ common_prefix u v
    go (yes p) q = absurd (w.differ (omega (arith, c.in_left)) (omega (arith, c.in_right)) (c.alike r p))
    go (no p) (yes q) = absurd (c.differ (omega (arith, w.in_left)) (omega (arith, w.in_right)) (w.alike (common_prefix u v) q))
    go (no p) (no q) = omega (arith, p, q)

-- The letters below k agree.
pub record AlikeBelow (u v : List ℕ) (k : ℕ) : Type 0 where
  pub in_left : k ≤ length u
  pub in_right : k ≤ length v
  pub alike : (t : ℕ) → t < k → get_or u t 0 ≡ get_or v t 0

pub alike_none : (u v : List ℕ) → AlikeBelow u v 0
alike_none u v = record { in_left = omega arith; in_right = omega arith; alike = λ t h. absurd (omega arith) }

pub alike_more : (u v : List ℕ) (k : ℕ) → AlikeBelow u v k → k < length u → k < length v → get_or u k 0 ≡ get_or v k 0 → AlikeBelow u v (k + 1)
alike_more u v k w p q e = record { in_left = omega arith; in_right = omega arith; alike = λ t h. at t h (dec_lt t k) }
  where
    at : (t : ℕ) → t < k + 1 → Dec (t < k) → get_or u t 0 ≡ get_or v t 0
    at t h (yes l) = w.alike t l
    at t h (no l) = let z : k ≡ t = omega (arith, l) in subst (λ (m : ℕ). get_or u m 0 ≡ get_or v m 0) z e

-- The number is reached where a letter differs or a word ends.
alike_is : (u v : List ℕ) (k : ℕ) → AlikeBelow u v k → (k < length u → k < length v → ¬ (get_or u k 0 ≡ get_or v k 0)) → k ≡ common_prefix u v
alike_is u v k w d = agreement_is u v k (record { in_left = w.in_left; in_right = w.in_right; alike = w.alike; differ = d })

pub alike_differs : (u v : List ℕ) (k : ℕ) → AlikeBelow u v k → ¬ (get_or u k 0 ≡ get_or v k 0) → k ≡ common_prefix u v
alike_differs u v k w d = alike_is u v k w (λ p q. d)

pub alike_left_ends : (u v : List ℕ) (k : ℕ) → AlikeBelow u v k → length u ≤ k → k ≡ common_prefix u v
alike_left_ends u v k w h = alike_is u v k w (λ p q. absurd (omega arith))

pub alike_right_ends : (u v : List ℕ) (k : ℕ) → AlikeBelow u v k → length v ≤ k → k ≡ common_prefix u v
alike_right_ends u v k w h = alike_is u v k w (λ p q. absurd (omega arith))

-- Behind letters that agree, the rests agree on as many letters as are left.
pub common_rest : (u v : List ℕ) (k : ℕ) → AlikeBelow u v k → k + common_prefix (drop k u) (drop k v) ≡ common_prefix u v
common_rest u v zero w = omega arith
common_rest [] v (suc k) w = absurd (omega (arith, w.in_left))
common_rest (a ∷ u) [] (suc k) w = absurd (omega (arith, w.in_right))
common_rest (a ∷ u) (b ∷ v) (suc k) w =
    go (eqb a b) (eq-eqb a b (w.alike 0 (omega arith)))
    (common_rest u v k
    (record { in_left = omega (arith, w.in_left); in_right = omega (arith, w.in_right); alike = λ t h. w.alike (suc t) (omega arith) }))
  where
    go : (t : Bool) → t ≡ true → k + common_prefix (drop k u) (drop k v) ≡ common_prefix u v →
        suc k + common_prefix (drop k u) (drop k v) ≡ elim t [ true ↦ suc (common_prefix u v) | false ↦ 0 ]
    go true e rest = omega (arith, rest)
    go false e rest = let z : ◌≡◌ {A = ℕ} 0 1 = cc in absurd (omega arith)

-- The letters below k agree, and the parts of m letters from there on agree on r letters: the letters below k + r agree.
pub alike_part : (u v : List ℕ) (k m r : ℕ) → AlikeBelow u v k → k + m ≤ length u → k + m ≤ length v → r ≡ common_prefix (take m (drop k u)) (take m (drop k v)) →
    AlikeBelow u v (k + r)
alike_part u v k m r w p q e =
    record { in_left = omega (arith, p, few); in_right = omega (arith, q, few); alike = λ t h. at t h (dec_lt t k) }
  where
    f : Agreement (take m (drop k u)) (take m (drop k v)) r
    f = subst (Agreement (take m (drop k u)) (take m (drop k v))) (sym e) (common_prefix_agreement (take m (drop k u)) (take m (drop k v)))

    few : r ≤ m
    few = omega (arith, f.in_left, length-take-le m (drop k u) (omega (arith, length-drop k u)))

    letter : (x : List ℕ) (t : ℕ) → k ≤ t → t < k + r → get_or (take m (drop k x)) (t - k) 0 ≡ get_or x t 0
    letter x t a b =
        let back : k + (t - k) ≡ t = omega arith in
        get_or-take m (drop k x) (t - k) 0 (omega (arith, few)) ∙ get_or-drop k x (t - k) 0 ∙ ap (λ (s : ℕ). get_or x s 0) back

    at : (t : ℕ) → t < k + r → Dec (t < k) → get_or u t 0 ≡ get_or v t 0
    at t h (yes l) = w.alike t l
    at t h (no l) =
        sym (letter u t (omega (arith, l)) h) ∙ f.alike (t - k) (omega (arith, l)) ∙ letter v t (omega (arith, l)) h

-- The rests of two texts, from a and from b, agree in rank as far as those of their rows do.
pub rests_agree : (table x y : List ℕ) (a b r : ℕ) →
    r ≡ common_prefix (rank_row table (take (length x - a) (drop a x))) (rank_row table (take (length y - b) (drop b y))) →
    r ≡ common_prefix (drop a (rank_row table x)) (drop b (rank_row table y))
rests_agree table x y a b r e = e ∙ ap₂ common_prefix (row_rest table x a) (row_rest table y b)

-- A word agrees with itself on all its letters.
pub common_self : (u : List ℕ) → common_prefix u u ≡ length u
common_self [] = refl
common_self (a ∷ u) = go (eqb a a) (eq-eqb a a refl) (common_self u)
  where
    go : (t : Bool) → t ≡ true → common_prefix u u ≡ length u → elim t [ true ↦ suc (common_prefix u u) | false ↦ 0 ] ≡ suc (length u)
    go true e rest = ap suc rest
    go false e rest = let z : ◌≡◌ {A = ℕ} 0 1 = cc in absurd (omega arith)

-- Words of one length that agree on all their letters are equal.
pub common_all : (u v : List ℕ) → length u ≡ length v → length u ≤ common_prefix u v → u ≡ v
common_all u v size all =
    let w = common_prefix_agreement u v in ext_get_or 0 u v size (λ i l. w.alike i (omega (arith, all)))
