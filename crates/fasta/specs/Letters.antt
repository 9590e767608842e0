-- The letters of the sequence lines of a FASTA record, as they are handed on (document 02, E2).
-- Assumes nothing.
use Rattle.std.specs.Prelude.{List, [], ◌∷◌, ℕ}
use Rattle.fasta_record.specs.declared.bytes.Kind.{Kind}
use Rattle.fasta_record.specs.declared.bytes.Kind.TheVariants.{Letter, LineEnd, CarriageReturn, HeaderMark, Unfit}
use Rattle.fasta_record.specs.Bytes.{kind_of, letter_of}

-- What is handed on for the byte b, where its kind is a letter, before the letters of what follows.
abbrev pub letter_before : Kind → ℕ → List ℕ → List ℕ
letter_before Letter b l = letter_of b ∷ l
letter_before LineEnd b l = l
letter_before CarriageReturn b l = l
letter_before HeaderMark b l = l
letter_before Unfit b l = l

-- The letters of the sequence lines s.
abbrev pub letters_in : List ℕ → List ℕ
letters_in [] = []
letters_in (b ∷ s) = letter_before (kind_of b) b (letters_in s)
