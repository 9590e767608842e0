-- The bytes of a FASTA input, sorted by their numbers.
-- Assumes nothing.
use Rattle.std.specs.Prelude.{Bool, false, cond, ◌&&◌, ◌||◌, List, [], ◌∷◌, ℕ, ◌-◌, leb, eqb}
use Rattle.fasta_record.specs.declared.bytes.Kind.{Kind}
use Rattle.fasta_record.specs.declared.bytes.Kind.TheVariants.{Letter, LineEnd, CarriageReturn, HeaderMark, Unfit}
use Rattle.fasta_record.specs.declared.bytes.NameByte.{NameByte}
use Rattle.fasta_record.specs.declared.bytes.NameByte.TheVariants.{Part, Past, Foreign}

-- b is one of the numbers from low to high.
abbrev pub within : ℕ → ℕ → ℕ → Bool
within low high b = leb low b && leb b high

-- In sequence lines: A to Z and a to z are letters, 10 is LF, 13 is CR, 62 is '>'.
abbrev pub kind_of : ℕ → Kind
kind_of b =
    cond (within 65 90 b || within 97 122 b) Letter
    (cond (eqb b 10) LineEnd
    (cond (eqb b 13) CarriageReturn
    (cond (eqb b 62) HeaderMark Unfit)))

-- What the reader hands on for a letter of the input: "capitals only". A lower-case letter "is the same base" as its capital, whose number is
-- less by 32; any other byte stays (document 02, E2).
abbrev pub letter_of : ℕ → ℕ
letter_of b = cond (within 97 122 b) (b - 32) b

-- In a name: space, tab, CR and LF end it, 33 to 126 are its bytes.
abbrev pub name_byte_of : ℕ → NameByte
name_byte_of b =
    cond (eqb b 32 || (eqb b 9 || (eqb b 13 || eqb b 10))) Past
    (cond (within 33 126 b) Part Foreign)

-- The first of the bytes s is b.
abbrev pub starts_with : ℕ → List ℕ → Bool
starts_with b [] = false
starts_with b (a ∷ s) = eqb a b

-- '>'.
abbrev pub header_mark : ℕ
header_mark = 62

-- LF.
abbrev pub line_end : ℕ
line_end = 10

-- CR.
abbrev pub carriage_return : ℕ
carriage_return = 13
