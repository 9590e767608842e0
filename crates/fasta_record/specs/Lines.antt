-- The sequence lines of a FASTA record.
-- Assumes nothing.
use Rattle.std.specs.Prelude.{Bool, true, false, cond, List, [], ◌∷◌, ℕ, suc, ltb, eqb, Result, Ok}
use Rattle.answer.specs.declared.Reason.TheVariants.{UnfitByte, TooManyLetters}
use Rattle.answer.specs.Limits.{max_letters}
use Rattle.fasta_record.specs.declared.Fault.{Fault}
use Rattle.fasta_record.specs.declared.bytes.Kind.{Kind}
use Rattle.fasta_record.specs.declared.bytes.Kind.TheVariants.{Letter, LineEnd, CarriageReturn, HeaderMark, Unfit}
use Rattle.fasta_record.specs.declared.lines.Lines.{Lines}
use Rattle.fasta_record.specs.declared.lines.Stop.TheVariants.{NextRecord, InputEnd}
use Rattle.fasta_record.specs.Bytes.{kind_of, line_end, starts_with}
use Rattle.fasta_record.specs.Fault.{refused_at}

-- The position past the line whose bytes from position p on begin s: past its LF, or the end.
abbrev pub after_line : ℕ → List ℕ → ℕ
after_line p [] = p
after_line p (b ∷ s) = cond (eqb b line_end) (suc p) (after_line (suc p) s)

-- What a byte of this kind at position p makes of the lines, inside a line or at the start of one, after count letters and before the bytes s.
-- rest is what the bytes s make of them, then inside a line or not, after so many letters.
abbrev pub line_step : Kind → ℕ → Bool → ℕ → List ℕ → (Bool → ℕ → Result Lines Fault) → Result Lines Fault
line_step Letter p inside count s rest = cond (ltb count max_letters) (rest true (suc count)) (refused_at TooManyLetters p)
line_step LineEnd p inside count s rest = rest false count
line_step CarriageReturn p inside count s rest = cond (starts_with line_end s) (rest true count) (refused_at UnfitByte p)
line_step HeaderMark p inside count s rest =
    cond inside (refused_at UnfitByte p) (Ok (record { count = count; stop = NextRecord; position = p }))
line_step Unfit p inside count s rest = refused_at UnfitByte p

-- The sequence lines s that start at position p, inside a line or at the start of one, after count letters.
abbrev pub lines_from : ℕ → Bool → ℕ → List ℕ → Result Lines Fault
lines_from p inside count [] = Ok (record { count = count; stop = InputEnd; position = p })
lines_from p inside count (b ∷ s) = line_step (kind_of b) p inside count s (λ i c. lines_from (suc p) i c s)
