-- The Lyndon array of a text.
-- Assumes nothing.
use Rattle.std.specs.Prelude.{◌≡◌, List, ℕ, ◌+◌, ◌<◌, ◌≤◌, length, get_or}
use Rattle.words.specs.Letters.{Letters}
use Rattle.words.specs.Word.{span}
use Rattle.words.specs.Lyndon.{Lyndon}

-- l is the length of the longest Lyndon word of x that starts at i (document 002, "Lyndon arrays (1)").
pub record LongestFrom {ℓ κ} {A : Type ℓ} (O : Letters {ℓ, κ} A) (x : List A) (i l : ℕ) : Type (ℓ ⊔ κ) where
  pub fits : i + l ≤ length x
  pub lyndon : Lyndon O (span i (i + l) x)
  pub longest : (m : ℕ) → l < m → i + m ≤ length x → ¬ Lyndon O (span i (i + m) x)

-- a is the Lyndon array of x (document 01's array; document 002, "Lyndon arrays (1)"). Here and everywhere, `get_or l i d` is entry i of
-- the list l, counted from 0, or d where l has no entry i. Only the end of a last factor (`IsForest`) makes use of d.
pub record IsLyndonArray {ℓ κ} {A : Type ℓ} (O : Letters {ℓ, κ} A) (x : List A) (a : List ℕ) : Type (ℓ ⊔ κ) where
  pub size : length a ≡ length x
  pub entry : (i : ℕ) → i < length x → LongestFrom O x i (get_or a i 0)
