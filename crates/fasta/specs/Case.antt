-- Inputs that differ in the case of their sequence letters only (document 02, E2).
-- Assumes nothing.
use Rattle.std.specs.Prelude.{◌≡◌, List, ℕ, ◌+◌, ◌≤◌, ◌<◌, length, get_or}
use Rattle.fasta.specs.Classes.{IsCapital}
use Rattle.fasta.specs.Rows.{HeaderEnds}

-- The byte b is a, or the two are one letter in its two cases: the number of the lower case is that of the capital and 32.
pub data UpToCase (a b : ℕ) : Type 0 where
  same : a ≡ b → UpToCase a b
  lowered : IsCapital a → b ≡ a + 32 → UpToCase a b
  raised : IsCapital b → a ≡ b + 32 → UpToCase a b

-- y is x with any of its letters behind the header line, the sequence letters among them, in the other case. The header line ends at header_end.
pub record CaseChanged (x y : List ℕ) : Type 0 where
  pub header_end : ℕ
  pub ends : HeaderEnds x 0 header_end
  pub size : length x ≡ length y
  pub header : (k : ℕ) → k ≤ header_end → get_or x k 0 ≡ get_or y k 0
  pub lines : (k : ℕ) → header_end < k → k < length x → UpToCase (get_or x k 0) (get_or y k 0)
