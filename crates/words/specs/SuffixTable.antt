-- The Lyndon suffix table of a text.
-- Assumes nothing.
use Rattle.std.specs.Prelude.{◌≡◌, List, ℕ, suc, ◌+◌, ◌<◌, length, get_or}
use Rattle.words.specs.Letters.{Letters}
use Rattle.words.specs.Word.{span}
use Rattle.words.specs.Lyndon.{Lyndon}

-- l is the length of the longest Lyndon word of x that ends at j (document 000, section 2).
pub record LongestTo {ℓ κ} {A : Type ℓ} (O : Letters {ℓ, κ} A) (x : List A) (j l : ℕ) : Type (ℓ ⊔ κ) where
  pub start : ℕ
  pub ends : start + l ≡ suc j
  pub lyndon : Lyndon O (span start (suc j) x)
  pub longest : (k : ℕ) → k < start → ¬ Lyndon O (span k (suc j) x)

-- t is the Lyndon suffix table of x (document 01's prefix table; LynS of document 000, section 2).
pub record IsSuffixTable {ℓ κ} {A : Type ℓ} (O : Letters {ℓ, κ} A) (x : List A) (t : List ℕ) : Type (ℓ ⊔ κ) where
  pub size : length t ≡ length x
  pub entry : (j : ℕ) → j < length x → LongestTo O x j (get_or t j 0)
