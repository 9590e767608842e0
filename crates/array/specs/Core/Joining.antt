-- A word joined up to some position, with the buffer at that moment.
-- Assumes nothing.
use Rattle.std.specs.Prelude.{◌≡◌, ◌⊎◌, ℕ, suc, ◌+◌, ◌<◌, ◌≤◌}
use Rattle.words.specs.Laws.Position.{Agree, SpanLyndon}
use Rattle.words.specs.Letters.{Letters}
use Rattle.array.specs.Core.Rows.{Rows}

-- The last part joined to the word at i, which ends at j: it starts at `part`, and the word agrees with it on g letters.
pub record LastPart {ℓ} {A : Type ℓ} (x : ℕ → A) (lam : ℕ → ℕ) (i j g : ℕ) : Type ℓ where
  pub part : ℕ
  pub after : i < part
  pub before : part < j
  pub part_ends : part + lam part ≡ j
  pub earlier : (t : ℕ) → i < t → t < part → t + lam t ≤ part
  pub agree : Agree x i part g

-- The word from i has been joined up to j, and agrees with what follows on k letters.
pub record Joining {ℓ κ} {A : Type ℓ} (O : Letters {ℓ, κ} A) (x : ℕ → A) (n : ℕ) (lam buf : ℕ → ℕ) (i j k g : ℕ) : Type (ℓ ⊔ κ) where
  pub lyndon : SpanLyndon O x i j
  pub inside : j ≤ n
  pub covered : (t : ℕ) → i < t → t < j → t + lam t ≤ j
  pub inner : (t : ℕ) → i < t → t < j → buf t ≡ lam t
  pub rows : Rows x n lam buf j
  pub agree : j < n → Agree x i j k
  pub within : j < n → j + k ≤ n
  pub joined : (j ≡ suc i) ⊎ LastPart x lam i j g
