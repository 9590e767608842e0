-- The conditions of the reader's rows in document 01's table ("Where each check stands"), by which byte stands where in the input x.
-- Assumes nothing.
use Rattle.std.specs.Prelude.{◌≡◌, ◌⊎◌, ℕ, suc, ◌+◌, ◌-◌, ◌≤◌, ◌<◌, length, get_or, take, drop}
use mathlib.Core.List.{List, [], filter}
use Rattle.answer.specs.declared.Reason.{Reason}
use Rattle.answer.specs.declared.Reason.TheVariants.{ShortOutput, NoHeader, BadName, UnfitByte, SecondRecord, NoLetters, TooManyLetters, FileTooLong}
use Rattle.answer.specs.Limits.{max_letters, max_input}
use Rattle.fasta_record.specs.Bytes.{header_mark, line_end, carriage_return}
use Rattle.fasta.specs.Classes.{IsLetter, InName, EndsName, letter?}
use Rattle.fasta_record.specs.Name.{max_name}

-- The byte b stands at p.
pub record Stands (x : List ℕ) (p b : ℕ) : Type 0 where
  pub inside : p < length x
  pub byte : get_or x p 0 ≡ b

-- The name behind the '>' at s goes on up to p: all bytes between the two are bytes of a name.
pub record NameUpTo (x : List ℕ) (s p : ℕ) : Type 0 where
  pub behind : s < p
  pub within : p ≤ length x
  pub bytes : (k : ℕ) → s < k → k < p → InName (get_or x k 0)

-- The name is over at p: "ended by space, tab, CR, LF or the end".
abbrev pub NameOver : List ℕ → ℕ → Type 0
NameOver x p = (p ≡ length x) ⊎ ((p < length x) × EndsName (get_or x p 0))

-- The name ends at p: "1 to 60 bytes from 33 to 126 (decimal), ended by space, tab, CR, LF or the end".
pub record NameEnds (x : List ℕ) (s p : ℕ) : Type 0 where
  pub up_to : NameUpTo x s p
  pub over : NameOver x p
  pub some : suc s < p
  pub most : p ≤ suc s + max_name

-- Row 10, where the name goes on up to p: "empty, a 61st byte, or a byte outside 33 to 126 that doesn't end it", with "that byte" or, of an
-- empty name, the position behind the '>' ("1").
pub data BadNameAt (x : List ℕ) (s p : ℕ) : Type 0 where
  empty : p ≡ suc s → NameOver x p → BadNameAt x s p
  too_long : p ≡ suc s + max_name → p < length x → InName (get_or x p 0) → BadNameAt x s p
  foreign : p < length x → ¬ InName (get_or x p 0) → ¬ EndsName (get_or x p 0) → BadNameAt x s p

-- The header line, that of the '>' at s, ends at e: at its first LF, or at the input's end. The rest of it is ignored.
pub record HeaderEnds (x : List ℕ) (s e : ℕ) : Type 0 where
  pub from : s ≤ e
  pub no_earlier : (k : ℕ) → s ≤ k → k < e → ¬ (get_or x k 0 ≡ line_end)
  pub here : (e ≡ length x) ⊎ Stands x e line_end

-- p is a position of the sequence lines, which lie behind the header line's end e.
pub record InLines (x : List ℕ) (e p : ℕ) : Type 0 where
  pub behind : e < p
  pub inside : p < length x

-- A line of the sequence lines starts at p: LF stands directly before it. (Positions of the sequence lines are above 0.)
abbrev pub LineStart : List ℕ → ℕ → Type 0
LineStart x p = get_or x (p - 1) 0 ≡ line_end

-- Row 11, "unfit byte, or '>' inside a line": no letter, LF, CR or '>'; a CR that does not stand directly before LF; or a '>' at no line's start.
pub data UnfitAt (x : List ℕ) (p : ℕ) : Type 0 where
  other_byte :
      ¬ IsLetter (get_or x p 0) → ¬ (get_or x p 0 ≡ line_end) → ¬ (get_or x p 0 ≡ carriage_return) → ¬ (get_or x p 0 ≡ header_mark) → UnfitAt x p
  return_alone : get_or x p 0 ≡ carriage_return → ¬ Stands x (suc p) line_end → UnfitAt x p
  mark_inside : get_or x p 0 ≡ header_mark → ¬ LineStart x p → UnfitAt x p

-- The letters of the sequence lines: the bytes behind the header line's end e that are letters, in their order.
abbrev pub sequence_letters : List ℕ → ℕ → List ℕ
sequence_letters x e = filter letter? (drop (suc e) x)

-- The rows of the lines behind e, with reason and position: 11; 12, "'>' at a line's start"; 14, a 4,097th letter (document 02, E4).
pub data LineRow (x : List ℕ) (e : ℕ) : Reason → ℕ → Type 0 where
  unfit_byte : {p : ℕ} → InLines x e p → UnfitAt x p → LineRow x e UnfitByte p
  second_record : {p : ℕ} → InLines x e p → get_or x p 0 ≡ header_mark → LineStart x p → LineRow x e SecondRecord p
  letter_too_many :
      {p : ℕ} → InLines x e p → IsLetter (get_or x p 0) → length (sequence_letters (take p x) e) ≡ max_letters → LineRow x e TooManyLetters p

-- The rows of the record that starts at s: 9, "absent or not '>'"; 10; those of its lines; 13, "no letter read".
pub data RecordRow (x : List ℕ) (s : ℕ) : Reason → ℕ → Type 0 where
  no_header : ¬ Stands x s header_mark → RecordRow x s NoHeader s
  bad_name : {p : ℕ} → NameUpTo x s p → BadNameAt x s p → RecordRow x s BadName p
  in_lines : {e p : ℕ} {r : Reason} → HeaderEnds x s e → LineRow x e r p → RecordRow x s r p
  no_letters : {e : ℕ} → HeaderEnds x s e → sequence_letters x e ≡ [] → RecordRow x s NoLetters (length x)

-- The rows of the reader, for a letters buffer of so many places: 4, a letters buffer under 4,096, and 15, over 16,384 bytes (document 02, E4); those of the
-- record.
pub data Row (x : List ℕ) (places : ℕ) : Reason → ℕ → Type 0 where
  short_buffer : places < max_letters → Row x places ShortOutput 0
  long_input : max_input < length x → Row x places FileTooLong max_input
  in_record : {r : Reason} {p : ℕ} → RecordRow x 0 r p → Row x places r p
