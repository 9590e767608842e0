-- The table of the default order, the checks of a call by it, and the texts whose letters compare in it as they do in order 0.
-- Assumes nothing.
use Rattle.std.specs.Prelude.{◌≡◌, ◌⊎◌, List, ℕ, ◌+◌, ◌-◌, ◌<◌, ◌≤◌, length, get_or}
use Rattle.std.proofs.Common.{sym, ap, ◌∙◌, inl, inr, arith}
use Rattle.std.proofs.Math.Decide.{dec_lt}
use Rattle.words.specs.Letters.{rising, Smaller}
use Rattle.words.specs.Laws.SpanLyndon.{letters}
use Rattle.words.specs.Laws.OrderedAlike.{OrderedAlike}
use Rattle.answer.specs.declared.Answer.{Answer}
use Rattle.answer.specs.Limits.{table_length}
use Rattle.checks.specs.Checks.{text_checked, forest_checked, ranked_text_checked, ranked_forest_checked}
use Rattle.checks.specs.CheckLaws.{ranked_text_as, ranked_forest_as}
use Rattle.letters.specs.Ranks.{rank_by}
use Rattle.letters.specs.RankLaws.{Bytes, row_length, row_letter}
use Rattle.letters.specs.BuiltInLaws.{folded_before, folded_letter, folded_behind, built_in_length}
use Rattle.letters.specs.Default.{default_table, default_row, Unmixed}

pub default_length : length default_table ≡ table_length
default_length = built_in_length 1

-- In order 2 by this table the checks of a ranked call are those of a call without an order: refusals 3 and 16 are never given.
pub default_text_checks : (n given : ℕ) (after : Answer) → text_checked n given after ≡ ranked_text_checked n 2 (length default_table) given after
default_text_checks n given after = sym (ranked_text_as n after 2 (length default_table) (omega arith) (λ e. default_length) given)

pub default_forest_checks : (n first past : ℕ) (after : Answer) →
    forest_checked n first past after ≡ ranked_forest_checked n 2 (length default_table) first past after
default_forest_checks n first past after = sym (ranked_forest_as n after 2 (length default_table) (omega arith) (λ e. default_length) first past)

-- The rank r of a letter a.
data Folded (a r : ℕ) : Type 0 where
  before : a < 97 → r ≡ a → Folded a r
  lower_case : 97 ≤ a → a ≤ 122 → r + 32 ≡ a → Folded a r
  behind : 122 < a → r ≡ a → Folded a r

folded : (a : ℕ) → a < table_length → Folded a (rank_by default_table a)
folded a l = go (dec_lt a 97) (dec_lt 122 a)
  where
    go : Dec (a < 97) → Dec (122 < a) → Folded a (rank_by default_table a)
    go (yes p) d = before p (folded_before a p)
    go (no p) (yes q) = behind q (folded_behind a q l)
    go (no p) (no q) =
        lower_case (omega arith) (omega arith) (omega (arith, folded_letter a (omega arith) (omega arith), folded_before (a - 32) (omega arith)))

-- Where there are no a to z, ranks are the letters.
kept : (a r : ℕ) → Folded a r → (a < 97) ⊎ (122 < a) → r ≡ a
kept a r (before l e) out = e
kept a r (lower_case l m e) (inl p) = absurd (omega arith)
kept a r (lower_case l m e) (inr p) = absurd (omega arith)
kept a r (behind l e) out = e

-- Where there are no bytes from 65 to 96, ranks rise with the letters.
rises : (a b r s : ℕ) → Folded a r → Folded b s → (a < 65) ⊎ (96 < a) → (b < 65) ⊎ (96 < b) → a < b → r < s
rises a b r s (before l e) (before m f) p q h = omega arith
rises a b r s (before l e) (lower_case m n f) (inl p) q h = omega arith
rises a b r s (before l e) (lower_case m n f) (inr p) q h = absurd (omega arith)
rises a b r s (before l e) (behind m f) p q h = omega arith
rises a b r s (lower_case l k e) (before m f) p q h = absurd (omega arith)
rises a b r s (lower_case l k e) (lower_case m n f) p q h = omega arith
rises a b r s (lower_case l k e) (behind m f) p q h = omega arith
rises a b r s (behind l e) (before m f) p q h = absurd (omega arith)
rises a b r s (behind l e) (lower_case m n f) p q h = absurd (omega arith)
rises a b r s (behind l e) (behind m f) p q h = omega arith

module _ (x : List ℕ) (bytes : Bytes x) where
  key : (i : ℕ) → i < length x → letters 0 (default_row x) i ≡ rank_by default_table (get_or x i 0)
  key i l = row_letter default_table x i l

  -- Ranks that rise with the letters compare as the letters do.
  rising_alike :
      ((i j : ℕ) → i < length x → j < length x → get_or x i 0 < get_or x j 0 → rank_by default_table (get_or x i 0) < rank_by default_table (get_or x j 0)) →
      OrderedAlike rising rising 0 0 x (default_row x)
  rising_alike up =
      record {
        size = row_length default_table x;
        there = record { equal = λ i j p q e. key i p ∙ ap (rank_by default_table) e ∙ sym (key j q); smaller = λ i j p q s. smaller (there i j p q s.1) };
        back = record { equal = equal; smaller = λ i j p q s. smaller (back i j p q s.1) };
      }
    where
      smaller : {a b : ℕ} → a < b → Smaller rising a b
      smaller l = (λ e. omega arith, l)

      there : (i j : ℕ) → i < length x → j < length x → get_or x i 0 < get_or x j 0 → letters 0 (default_row x) i < letters 0 (default_row x) j
      there i j p q s = omega (arith, key i p, key j q, up i j p q s)

      equal : (i j : ℕ) → i < length x → j < length x → letters 0 (default_row x) i ≡ letters 0 (default_row x) j → get_or x i 0 ≡ get_or x j 0
      equal i j p q e =
          let m : ¬ (get_or x i 0 < get_or x j 0) = λ h. omega (arith, there i j p q h) in
          let n : ¬ (get_or x j 0 < get_or x i 0) = λ h. omega (arith, there j i q p h) in
          omega arith

      back : (i j : ℕ) → i < length x → j < length x → letters 0 (default_row x) i < letters 0 (default_row x) j → get_or x i 0 < get_or x j 0
      back i j p q l =
          let m : ¬ (get_or x j 0 < get_or x i 0) = λ h. omega (arith, there j i q p h) in
          let n : ¬ (get_or x i 0 ≡ get_or x j 0) = λ h. omega (arith, key i p, key j q, ap (rank_by default_table) h) in
          omega arith

  -- In such a text the default order compares letters as order 0 does.
  pub default_alike : Unmixed x → OrderedAlike rising rising 0 0 x (default_row x)
  default_alike (inl none) =
      rising_alike
      (λ i j p q l. omega (arith, own i p, own j q))
    where
      own : (i : ℕ) → i < length x → rank_by default_table (get_or x i 0) ≡ get_or x i 0
      own i l = kept (get_or x i 0) (rank_by default_table (get_or x i 0)) (folded (get_or x i 0) (bytes.byte i)) (none.outside i l)
  default_alike (inr none) =
      rising_alike
      (λ i j p q l.
      rises (get_or x i 0) (get_or x j 0) (rank_by default_table (get_or x i 0)) (rank_by default_table (get_or x j 0)) (folded (get_or x i 0) (bytes.byte i))
      (folded (get_or x j 0) (bytes.byte j)) (none.outside i p) (none.outside j q) l)
