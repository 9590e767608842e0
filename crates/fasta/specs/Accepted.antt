-- What is known of an input that the reader accepts.
-- Assumes nothing.
use Rattle.std.specs.Prelude.{◌≡◌, List, ℕ, ◌≤◌, ◌<◌, length, Ok}
use Rattle.answer.specs.Limits.{max_letters}
use Rattle.fasta_record.specs.Record.{name_end}
use Rattle.fasta.specs.Reader.{letters_of}
use Rattle.fasta.specs.Rows.{NameEnds}

-- The input x has one record, of count letters and a name that is over at `end`.
pub record AcceptedInput (x : List ℕ) (count end : ℕ) : Type 0 where
  pub letters : length (letters_of x) ≡ count
  pub some : 0 < count
  pub most : count ≤ max_letters
  pub found : name_end x 0 ≡ Ok end
  pub name : NameEnds x 0 end
