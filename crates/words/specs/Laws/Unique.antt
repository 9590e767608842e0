-- The relations determine their lists: no text has two Lyndon arrays, two suffix tables, or two forests over the same factors. No
-- comparison is decided.
-- Assumes nothing.
use Rattle.std.specs.Prelude.{◌≡◌, refl, List, ℕ, suc, ◌+◌, ◌-◌, ◌<◌, ◌≤◌, length, get_or}
use Rattle.std.proofs.Common.{sym, ◌∙◌, arith, ext_get_or}
use Rattle.std.proofs.Math.Decide.{dec_lt}
use Rattle.words.specs.Letters.{Letters}
use Rattle.words.specs.LyndonArray.{LongestFrom, IsLyndonArray}
use Rattle.words.specs.SuffixTable.{LongestTo, IsSuffixTable}
use Rattle.words.specs.CutTree.{CutTree, letter, cut, cuts, Recorded, Tree, IsForest}
use Rattle.words.specs.RightForest.{RightCut}
use Rattle.words.specs.LeftForest.{LeftCut}
use Rattle.words.specs.Tabulate.{tabulate}
use Rattle.words.specs.Laws.Tabulate.{tabulate_append}
use Rattle.words.specs.Laws.Factorization.{factor_holding}

module _ {ℓ κ} {A : Type ℓ} {O : Letters {ℓ, κ} A} {x : List A} where
  -- Two longest Lyndon words from i have one length.
  pub longest_from_unique : {i l m : ℕ} → LongestFrom O x i l → LongestFrom O x i m → l ≡ m
  longest_from_unique {l = l} {m = m} u v =
      let p : ¬ (l < m) = λ h. u.longest m h v.fits v.lyndon in
      let q : ¬ (m < l) = λ h. v.longest l h u.fits u.lyndon in
      omega arith

  -- A text has one Lyndon array.
  pub array_unique : {a b : List ℕ} → IsLyndonArray O x a → IsLyndonArray O x b → a ≡ b
  array_unique {a} {b} u v =
      ext_get_or 0 a b
      (u.size ∙ sym v.size)
      (λ i h. let k : i < length x = omega (arith, u.size) in longest_from_unique (u.entry i k) (v.entry i k))

  -- Two longest Lyndon words to j have one length.
  pub longest_to_unique : {j l m : ℕ} → LongestTo O x j l → LongestTo O x j m → l ≡ m
  longest_to_unique u v =
      let p : ¬ (u.start < v.start) = λ h. v.longest u.start h u.lyndon in
      let q : ¬ (v.start < u.start) = λ h. u.longest v.start h v.lyndon in
      omega (arith, u.ends, v.ends)

  -- A text has one Lyndon suffix table.
  pub suffix_table_unique : {a b : List ℕ} → IsSuffixTable O x a → IsSuffixTable O x b → a ≡ b
  suffix_table_unique {a} {b} u v =
      ext_get_or 0 a b
      (u.size ∙ sym v.size)
      (λ j h. let k : j < length x = omega (arith, u.size) in longest_to_unique (u.entry j k) (v.entry j k))

  -- The right forest's rule allows one cut of a span.
  pub right_cut_unique : {a c e b : ℕ} → RightCut O x a c b → RightCut O x a e b → c ≡ e
  right_cut_unique {c = c} {e = e} u v =
      let p : ¬ (c < e) = λ h. v.longest c u.proper h u.lyndon in
      let q : ¬ (e < c) = λ h. u.longest e v.proper h v.lyndon in
      omega arith

  -- The left forest's rule allows one cut of a span.
  pub left_cut_unique : {a c e b : ℕ} → LeftCut O x a c b → LeftCut O x a e b → c ≡ e
  left_cut_unique {c = c} {e = e} u v =
      let p : ¬ (c < e) = λ h. u.longest e h v.proper v.lyndon in
      let q : ¬ (e < c) = λ h. v.longest c h u.proper u.lyndon in
      omega arith

-- Two pairs of lists agree at position j.
record AgreeAt (first past first' past' : List ℕ) (j : ℕ) : Type 0 where
  firsts : get_or first j 0 ≡ get_or first' j 0
  pasts : get_or past j 0 ≡ get_or past' j 0

module _ {ρ} {Rule : ℕ → ℕ → ℕ → Type ρ} where
  -- A tree is cut before each position strictly inside its span, from left to right and once.
  pub cuts_are : {a b : ℕ} (t : CutTree Rule a b) → ((a c b : ℕ) → Rule a c b → (a < c) × (c < b))
      → cuts t ≡ tabulate (λ j. j) (suc a) (b - suc a)
  cuts_are {a} {b} (letter e) inside =
      let z : b - suc a ≡ 0 = omega arith in
      rw z
  cuts_are {a} {b} (cut c r u v) inside =
      let i = inside a c b r in
      let k = c - suc a in
      let m = b - suc c in
      let e : c ≡ suc a + k = omega arith in
      let z : k + suc m ≡ b - suc a = omega arith in
      rw (cuts_are u inside, cuts_are v inside, ← z, ← tabulate_append (λ j. j) (suc a) k (suc m), ← e)

module _
    {ρ}
    {Rule : ℕ → ℕ → ℕ → Type ρ}
    (unique : (a c e b : ℕ) → Rule a c b → Rule a e b → c ≡ e)
    (first past first' past' : List ℕ)
  where
    -- Lists that record trees of one span agree at each position strictly inside it.
    trees_agree : {a b a' b' : ℕ} (t : CutTree Rule a b) (t' : CutTree Rule a' b') → a ≡ a' → b ≡ b' → Recorded first past t
        → Recorded first' past' t' → (j : ℕ) → a < j → j < b → AgreeAt first past first' past' j
    trees_agree (letter e) t' p q m m' j h k = absurd (omega arith)
    trees_agree (cut c r u v) (letter e) p q m m' j h k = absurd (omega arith)
    trees_agree {a} {b} {a'} {b'} (cut c r u v) (cut c' r' u' v') p q m m' j h k =
        go (dec_lt j c) (dec_lt c j) (trees_agree u u' p e m.2 m'.2 j h) (λ i. trees_agree v v' e q m.3 m'.3 j i k)
      where
        e : c ≡ c'
        e = unique a c c' b r (rw (← p, ← q) at r')

        go : Dec (j < c) → Dec (c < j) → (j < c → AgreeAt first past first' past' j) → (c < j → AgreeAt first past first' past' j)
            → AgreeAt first past first' past' j
        go (yes i) d f g = f i
        go (no i) (yes d) f g = g d
        go (no i) (no d) f g =
            let z : j ≡ c = omega arith in
            record { firsts = cc (e, m.0, m'.0); pasts = cc (e, m.1, m'.1) }

    -- Lists that hold trees of one factor agree at each of its positions.
    factor_agrees : {a b : ℕ} → Tree Rule first past a b → Tree Rule first' past' a b → (j : ℕ) → a ≤ j → j < b
        → AgreeAt first past first' past' j
    factor_agrees {a} {b} t t' j h k = go (dec_lt a j)
      where
        go : Dec (a < j) → AgreeAt first past first' past' j
        go (yes i) = trees_agree t.tree t'.tree refl refl t.recorded t'.recorded j i k
        go (no i) =
            let z : j ≡ a = omega arith in
            record { firsts = cc (t.own_first, t'.own_first); pasts = cc (t.own_past, t'.own_past) }

-- Forests under a rule that allows one cut of a span, over the same factors, are equal.
pub forest_unique {ℓ κ ρ} : {A : Type ℓ} {O : Letters {ℓ, κ} A} {x : List A} {Rule : ℕ → ℕ → ℕ → Type ρ} {first past first' past' : List ℕ}
    → ((a c e b : ℕ) → Rule a c b → Rule a e b → c ≡ e)
    → (f : IsForest O Rule x first past) (g : IsForest O Rule x first' past') → f.starts ≡ g.starts
    → (first ≡ first') × (past ≡ past')
forest_unique {x = x} {Rule = Rule} {first = first} {past = past} {first' = first'} {past' = past'} unique f g e = (
  ext_get_or 0 first first'
      (f.first_size ∙ sym g.first_size)
      (λ j h. (agree j (omega (arith, f.first_size))).firsts),
  ext_get_or 0 past past'
      (f.past_size ∙ sym g.past_size)
      (λ j h. (agree j (omega (arith, f.past_size))).pasts),
)
  where
    s : List ℕ
    s = f.starts

    second_factor : (k : ℕ) → k < length s → Tree Rule first' past' (get_or s k 0) (get_or s (suc k) (length x))
    second_factor k h = rw e (g.factor k (rw e at h))

    agree : (j : ℕ) → j < length x → AgreeAt first past first' past' j
    agree j h =
        let p = factor_holding f.factorization j h in
        factor_agrees unique first past first' past'
        (f.factor p.part p.is_part)
        (second_factor p.part p.is_part)
        j
        p.started
        p.ends_after
