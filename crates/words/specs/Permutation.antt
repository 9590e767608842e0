-- Lists that hold each of 0 to n − 1 once.
-- Assumes nothing.
use Rattle.std.specs.Prelude.{◌≡◌, List, ℕ, ◌<◌, length, get_or}

-- The letters, or entries, of x are 0 to n − 1, each used once (document 01, "The calls"; document 02, E5): each is below n, no two places
-- have the same one, and each number below n is at some place.
pub record EachOnce (n : ℕ) (x : List ℕ) : Type 0 where
  pub size : length x ≡ n
  pub below : (i : ℕ) → i < n → get_or x i 0 < n
  pub different : (i j : ℕ) → i < j → j < n → ¬ (get_or x i 0 ≡ get_or x j 0)
  pub used : (c : ℕ) → c < n → (i : ℕ) × (i < n) × (get_or x i 0 ≡ c)
