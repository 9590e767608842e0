-- The name of a FASTA record: "1 to 60 bytes from 33 to 126 (decimal), ended by space, tab, CR, LF or the end".
-- Assumes nothing.
use Rattle.std.specs.Prelude.{cond, List, [], ◌∷◌, ℕ, suc, ltb, eqb, Result, Ok}
use Rattle.answer.specs.declared.Reason.TheVariants.{BadName}
use Rattle.fasta_record.specs.declared.Fault.{Fault}
use Rattle.fasta_record.specs.declared.bytes.NameByte.{NameByte}
use Rattle.fasta_record.specs.declared.bytes.NameByte.TheVariants.{Part, Past, Foreign}
use Rattle.fasta_record.specs.Bytes.{name_byte_of}
use Rattle.fasta_record.specs.Fault.{refused_at}

-- A name has at most so many bytes.
abbrev pub max_name : ℕ
max_name = 60

-- A name of count bytes that is over at position p: none is empty.
abbrev pub name_over : ℕ → ℕ → Result ℕ Fault
name_over p count = cond (eqb count 0) (refused_at BadName p) (Ok p)

-- What a byte at position p is to a name of count bytes before it; rest is what the bytes after it make of the name.
abbrev pub name_step : NameByte → ℕ → ℕ → Result ℕ Fault → Result ℕ Fault
name_step Part p count rest = cond (ltb count max_name) rest (refused_at BadName p)
name_step Past p count rest = name_over p count
name_step Foreign p count rest = refused_at BadName p

-- Where the name ends, past its last byte, whose further bytes begin s, which starts at position p, after count bytes of it.
abbrev pub name_from : ℕ → ℕ → List ℕ → Result ℕ Fault
name_from p count [] = name_over p count
name_from p count (b ∷ s) = name_step (name_byte_of b) p count (name_from (suc p) (suc count) s)
