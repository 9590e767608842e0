-- The classes of bytes that document 01 names, as conditions on a byte's number.
-- Assumes nothing.
use Rattle.std.specs.Prelude.{◌≡◌, ◌⊎◌, ℕ, ◌≤◌}
use Rattle.std.proofs.Common.{inl, inr}
use Rattle.std.proofs.Math.Decide.{dec_le}
use Rattle.fasta_record.specs.Bytes.{line_end, carriage_return}

-- "A to Z".
abbrev pub IsCapital : ℕ → Type 0
IsCapital b = (65 ≤ b) × (b ≤ 90)

-- "letters A to Z and a to z".
abbrev pub IsLetter : ℕ → Type 0
IsLetter b = IsCapital b ⊎ ((97 ≤ b) × (b ≤ 122))

-- "bytes from 33 to 126 (decimal)".
abbrev pub InName : ℕ → Type 0
InName b = (33 ≤ b) × (b ≤ 126)

-- "space, tab, CR, LF".
abbrev pub EndsName : ℕ → Type 0
EndsName b = (b ≡ 32) ⊎ (b ≡ 9) ⊎ (b ≡ carriage_return) ⊎ (b ≡ line_end)

both? : {A B : Type 0} → Dec A → Dec B → Dec (A × B)
both? (yes a) (yes b) = yes (a, b)
both? (yes a) (no n) = no (λ h. n h.1)
both? (no n) d = no (λ h. n h.0)

either? : {A B : Type 0} → Dec A → Dec B → Dec (A ⊎ B)
either? (yes a) d = yes (inl a)
either? (no n) (yes b) = yes (inr b)
either? {A} {B} (no n) (no m) = no neither
  where
    neither : A ⊎ B → ⊥
    neither (inl a) = n a
    neither (inr b) = m b

-- Whether a byte is a letter.
pub letter? : (b : ℕ) → Dec (IsLetter b)
letter? b = either? (both? (dec_le 65 b) (dec_le b 90)) (both? (dec_le 97 b) (dec_le b 122))
