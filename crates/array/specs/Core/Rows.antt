-- What the output buffer holds while the array is made: the factors in a row, each with what is remembered of it.
-- Assumes nothing.
use Rattle.std.specs.Prelude.{◌≡◌, List, ℕ, suc, ◌+◌, ◌<◌, ◌≤◌, length, get_or}
use Rattle.words.specs.Compute.LyndonArray.{array_of}
use Rattle.words.specs.Laws.Position.{Agree}
use Rattle.words.specs.Laws.SpanLyndon.{letters}
use Rattle.words.specs.Decided.{decided_order}

-- What is remembered of a factor longer than one letter that starts at c: its length stands at c, the entries inside it are final, and
-- its last place, whose entry is known to be 1, holds a number of letters on which the factor agrees with the next one and with its last part.
pub record Remembered {ℓ} {A : Type ℓ} (x : ℕ → A) (n : ℕ) (lam buf : ℕ → ℕ) (c : ℕ) : Type ℓ where
  pub inside : c < n
  pub ends_inside : c + lam c ≤ n
  pub long : 1 < lam c
  pub own : buf c ≡ lam c
  pub inner : (t : ℕ) → c < t → suc t < c + lam c → buf t ≡ lam t
  pub last : ℕ
  pub last_is : suc last ≡ c + lam c
  pub next_agree : c + lam c < n → Agree x c (c + lam c) (buf last)
  pub next_within : c + lam c < n → c + lam c + buf last ≤ n
  pub part : ℕ
  pub part_after : c < part
  pub part_before : part < c + lam c
  pub part_ends : part + lam part ≡ c + lam c
  pub part_first : (t : ℕ) → c < t → t < part → t + lam t < c + lam c
  pub part_agree : Agree x c part (buf last)

-- The buffer from c on, factor by factor.
pub data Rows {ℓ} {A : Type ℓ} (x : ℕ → A) (n : ℕ) (lam buf : ℕ → ℕ) : ℕ → Type ℓ where
  finished : {c : ℕ} → c ≡ n → Rows x n lam buf c
  letter : {c : ℕ} → c < n → lam c ≡ 1 → buf c ≡ 1 → Rows x n lam buf (suc c) → Rows x n lam buf c
  word : {c : ℕ} → Remembered x n lam buf c → Rows x n lam buf (c + lam c) → Rows x n lam buf c

-- The entry of the Lyndon array of x at t.
unfoldable pub entry_of : ℕ → List ℕ → ℕ → ℕ
entry_of order x t = get_or (array_of (decided_order order) x) t 0

-- The buffer from c on, factor by factor.
abbrev pub RowsOf : ℕ → List ℕ → List ℕ → ℕ → Type 0
RowsOf order x buf c = Rows (letters 0 x) (length x) (entry_of order x) (letters 0 buf) c
