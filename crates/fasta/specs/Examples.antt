-- An accepted input, one for each refusal, and one in the other case, computed.
-- Assumes nothing.
use Rattle.std.specs.Prelude.{◌≡◌, refl, List, [], ◌∷◌, ℕ, zero, suc, ◌≤◌, ◌<◌, get_or, replicate, Ok}
use Rattle.std.proofs.Common.{inr, arith}
use Rattle.answer.specs.declared.Reason.TheVariants.{ShortOutput, NoHeader, BadName, UnfitByte, SecondRecord, NoLetters, TooManyLetters, FileTooLong}
use Rattle.answer.specs.Answers.{accepted_with, refused_for}
use Rattle.answer.specs.Limits.{max_letters}
use Rattle.fasta_record.specs.Bytes.{header_mark, line_end}
use Rattle.fasta.specs.Case.{UpToCase, lowered, raised, CaseChanged}
use Rattle.fasta_record.specs.Record.{name_end}
use Rattle.fasta.specs.Reader.{reader_answer, letters_of}

-- `>m`, LF, `AC`, CR, LF, LF, `gt`: four letters.
four_letters : reader_answer (62 ∷ 109 ∷ 10 ∷ 65 ∷ 67 ∷ 13 ∷ 10 ∷ 10 ∷ 103 ∷ 116 ∷ []) max_letters ≡ accepted_with 4
four_letters = refl

-- They are handed on as capitals: `ACGT`.
four_capitals : letters_of (62 ∷ 109 ∷ 10 ∷ 65 ∷ 67 ∷ 13 ∷ 10 ∷ 10 ∷ 103 ∷ 116 ∷ []) ≡ 65 ∷ 67 ∷ 71 ∷ 84 ∷ []
four_capitals = refl

-- The letters at the ends of the two ranges, `AZaz`: `AZAZ`.
ends_of_ranges : letters_of (62 ∷ 109 ∷ 10 ∷ 65 ∷ 90 ∷ 97 ∷ 122 ∷ []) ≡ 65 ∷ 90 ∷ 65 ∷ 90 ∷ []
ends_of_ranges = refl

-- The name ends at 2.
name_end_lem : name_end (62 ∷ 109 ∷ 10 ∷ 65 ∷ 67 ∷ 13 ∷ 10 ∷ 10 ∷ 103 ∷ 116 ∷ []) 0 ≡ Ok 2
name_end_lem = refl

-- A buffer of 4,095 places.
short_buffer : reader_answer [] 4095 ≡ refused_for ShortOutput 0
short_buffer = refl

-- 16,385 bytes,
long_input : reader_answer (replicate 16385 header_mark) max_letters ≡ refused_for FileTooLong 16384
long_input = refl

-- and 16,384, which are read on: the name is too long.
longest_input : reader_answer (replicate 16384 header_mark) max_letters ≡ refused_for BadName 61
longest_input = refl

-- No byte.
no_header : reader_answer [] max_letters ≡ refused_for NoHeader 0
no_header = refl

-- `>`: no name.
empty_name : reader_answer (62 ∷ []) max_letters ≡ refused_for BadName 1
empty_name = refl

-- `>` and 61 bytes.
long_name : reader_answer (header_mark ∷ replicate 61 110) max_letters ≡ refused_for BadName 61
long_name = refl

-- `>m` and byte 127.
foreign_byte_in_name : reader_answer (62 ∷ 109 ∷ 127 ∷ []) max_letters ≡ refused_for BadName 2
foreign_byte_in_name = refl

-- `>m`, LF, `A`, CR, `C`: a CR that stands before no LF.
return_inside_line : reader_answer (62 ∷ 109 ∷ 10 ∷ 65 ∷ 13 ∷ 67 ∷ []) max_letters ≡ refused_for UnfitByte 4
return_inside_line = refl

-- `>m`, LF, `A>C`: '>' inside a line.
mark_inside_line : reader_answer (62 ∷ 109 ∷ 10 ∷ 65 ∷ 62 ∷ 67 ∷ []) max_letters ≡ refused_for UnfitByte 4
mark_inside_line = refl

-- `>m`, LF, `A`, LF, `>`: '>' at a line's start.
second_record : reader_answer (62 ∷ 109 ∷ 10 ∷ 65 ∷ 10 ∷ 62 ∷ []) max_letters ≡ refused_for SecondRecord 5
second_record = refl

-- `>m`, LF and 4,097 letters,
letter_too_many : reader_answer (header_mark ∷ 109 ∷ line_end ∷ replicate 4097 65) max_letters ≡ refused_for TooManyLetters 4099
letter_too_many = refl

-- and 4,096.
most_letters : reader_answer (header_mark ∷ 109 ∷ line_end ∷ replicate 4096 65) max_letters ≡ accepted_with 4096
most_letters = refl

-- `>m`, CR, `AC`: the rest of the first line is ignored.
no_letters : reader_answer (62 ∷ 109 ∷ 13 ∷ 65 ∷ 67 ∷ []) max_letters ≡ refused_for NoLetters 5
no_letters = refl

-- `>m`, LF, `aC`
abbrev one_case : List ℕ
one_case = 62 ∷ 109 ∷ 10 ∷ 97 ∷ 67 ∷ []

-- and `>m`, LF, `Ac`
abbrev other_case : List ℕ
other_case = 62 ∷ 109 ∷ 10 ∷ 65 ∷ 99 ∷ []

-- differ in the case of their sequence letters only.
case_changed : CaseChanged one_case other_case
case_changed =
    record {
      header_end = 2;
      ends = record { from = omega arith; no_earlier = λ k h l. no_line_end k l; here = inr (record { inside = omega arith; byte = refl }) };
      size = refl;
      header = header;
      lines = lines;
    }
  where
    no_line_end : (k : ℕ) → k < 2 → ¬ (get_or one_case k 0 ≡ line_end)
    no_line_end zero h e = omega arith
    no_line_end (suc zero) h e = omega arith
    no_line_end (suc (suc k)) h e = omega arith

    header : (k : ℕ) → k ≤ 2 → get_or one_case k 0 ≡ get_or other_case k 0
    header zero h = refl
    header (suc zero) h = refl
    header (suc (suc zero)) h = refl
    header (suc (suc (suc k))) h = absurd (omega arith)

    lines : (k : ℕ) → 2 < k → k < 5 → UpToCase (get_or one_case k 0) (get_or other_case k 0)
    lines zero h l = absurd (omega arith)
    lines (suc zero) h l = absurd (omega arith)
    lines (suc (suc zero)) h l = absurd (omega arith)
    lines (suc (suc (suc zero))) h l = raised (omega arith, omega arith) refl
    lines (suc (suc (suc (suc zero)))) h l = lowered (omega arith, omega arith) refl
    lines (suc (suc (suc (suc (suc k))))) h l = absurd (omega arith)
