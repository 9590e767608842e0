-- The reader and the case of letters: what it hands on is a capital, and what it reads is the same up to case.
-- Assumes nothing.
use Rattle.std.specs.Prelude.{◌≡◌, refl, Bool, true, false, cond, ◌⊎◌, List, [], ◌∷◌, ℕ, zero, suc, ◌+◌, ◌-◌, ◌≤◌, ◌<◌, eqb, ltb, length, get_or, drop, Result}
use Rattle.std.proofs.Common.{sym, ap, ap₂, ◌∙◌, inl, inr, arith, ne_eqb}
use Rattle.std.proofs.Math.Decide.{dec_le}
use Rattle.answer.specs.declared.Reason.TheVariants.{NoHeader, UnfitByte, TooManyLetters}
use Rattle.answer.specs.Limits.{max_letters}
use Rattle.fasta_record.specs.declared.bytes.Kind.{Kind}
use Rattle.fasta_record.specs.declared.bytes.Kind.TheVariants.{Letter, LineEnd, CarriageReturn, HeaderMark, Unfit}
use Rattle.fasta_record.specs.declared.bytes.NameByte.{NameByte}
use Rattle.fasta_record.specs.declared.bytes.NameByte.TheVariants.{Part, Past, Foreign}
use Rattle.fasta_record.specs.declared.Fault.{Fault}
use Rattle.fasta_record.specs.declared.lines.Lines.{Lines}
use Rattle.fasta_record.specs.Bytes.{within, kind_of, letter_of, name_byte_of, starts_with, header_mark, line_end}
use Rattle.fasta_record.specs.Fault.{refused_at}
use Rattle.fasta_record.specs.Name.{name_step, name_from}
use Rattle.fasta_record.specs.Lines.{after_line, line_step, lines_from}
use Rattle.fasta_record.specs.Record.{with_lines, lines_start, record_at, name_end}
use Rattle.fasta.specs.Classes.{IsCapital, IsLetter}
use Rattle.fasta.specs.Case.{UpToCase, same, lowered, raised, CaseChanged}
use Rattle.fasta.specs.Letters.{letter_before, letters_in}
use Rattle.fasta.specs.Reader.{record_letters}
use Rattle.fasta.specs.Laws.Classes.{WithinSays, within_says, KindSays, kind_says, NameByteSays, name_byte_says, letter_other, in_name_goes_on}

-- A capital is handed on as it is,
capital_kept : (b : ℕ) → IsCapital b → letter_of b ≡ b
capital_kept b h = go (within 97 122 b) (within_says 97 122 b)
  where
    go : (t : Bool) → WithinSays 97 122 b t → cond t (b - 32) b ≡ b
    go true l = absurd (omega arith)
    go false n = refl

-- and a lower-case letter as its capital.
lower_raised : (b : ℕ) → IsCapital b → letter_of (b + 32) ≡ b
lower_raised b h = go (within 97 122 (b + 32)) (within_says 97 122 (b + 32))
  where
    go : (t : Bool) → WithinSays 97 122 (b + 32) t → cond t (b + 32 - 32) (b + 32) ≡ b
    go true l = omega arith
    go false n = absurd (n (omega arith, omega arith))

-- For a letter a capital is handed on.
pub letter_capital : (b : ℕ) → IsLetter b → IsCapital (letter_of b)
letter_capital b (inl h) = rw (capital_kept b h) h
letter_capital b (inr h) =
    let c : IsCapital (b - 32) = (omega arith, omega arith) in
    let e : b ≡ b - 32 + 32 = omega arith in
    rw e (rw (lower_raised (b - 32) c) c)

-- Every letter of l is a capital.
abbrev pub Capitals : List ℕ → Type 0
Capitals l = (k : ℕ) → k < length l → IsCapital (get_or l k 0)

-- The letters of lines are handed on as capitals.
pub letters_capitals : (s : List ℕ) → Capitals (letters_in s)
letters_capitals [] = λ k h. absurd (omega arith)
letters_capitals (b ∷ s) = go (kind_of b) (kind_says b) (letters_capitals s)
  where
    first : IsCapital (letter_of b) → Capitals (letters_in s) → Capitals (letter_of b ∷ letters_in s)
    first l rest zero h = l
    first l rest (suc k) h = rest k (omega arith)

    go : (t : Kind) → KindSays b t → Capitals (letters_in s) → Capitals (letter_before t b (letters_in s))
    go Letter l rest = first (letter_capital b l) rest
    go LineEnd l rest = rest
    go CarriageReturn l rest = rest
    go HeaderMark l rest = rest
    go Unfit l rest = rest

-- A letter is a letter to the sequence lines,
pub letter_kind : (b : ℕ) → IsLetter b → kind_of b ≡ Letter
letter_kind b l = go (kind_of b) (kind_says b)
  where
    go : (t : Kind) → KindSays b t → t ≡ Letter
    go Letter h = refl
    go LineEnd h = absurd (letter_other b 10 (omega arith) l h)
    go CarriageReturn h = absurd (letter_other b 13 (omega arith) l h)
    go HeaderMark h = absurd (letter_other b 62 (omega arith) l h)
    go Unfit h = absurd (h.0 l)

letter_in_name : (b : ℕ) → IsLetter b → (33 ≤ b) × (b ≤ 126)
letter_in_name b (inl h) = (omega arith, omega arith)
letter_in_name b (inr h) = (omega arith, omega arith)

-- and a byte of the name to the header line.
letter_part : (b : ℕ) → IsLetter b → name_byte_of b ≡ Part
letter_part b l = go (name_byte_of b) (name_byte_says b)
  where
    go : (t : NameByte) → NameByteSays b t → t ≡ Part
    go Part h = refl
    go Past h = absurd (in_name_goes_on b (letter_in_name b l) h)
    go Foreign h = absurd (h.0 (letter_in_name b l))

-- Two bytes that are the same up to case are the same byte, or two letters
letters_or_same : {a b : ℕ} → UpToCase a b → (a ≡ b) ⊎ (IsLetter a × IsLetter b)
letters_or_same (same e) = inl e
letters_or_same (lowered h e) = inr (inl h, inr (omega arith, omega arith))
letters_or_same (raised h e) = inr (inr (omega arith, omega arith), inl h)

-- for which one capital is handed on.
one_letter : {a b : ℕ} → UpToCase a b → letter_of a ≡ letter_of b
one_letter (same e) = ap letter_of e
one_letter {a} {b} (lowered h e) = capital_kept a h ∙ sym (ap letter_of e ∙ lower_raised a h)
one_letter {a} {b} (raised h e) = ap letter_of e ∙ lower_raised b h ∙ sym (capital_kept b h)

-- A sort of bytes that puts all letters into one class puts both into one.
one_class : {C : Type 0} (f : ℕ → C) (c : C) → ((b : ℕ) → IsLetter b → f b ≡ c) → {a b : ℕ} → UpToCase a b → f a ≡ f b
one_class f c all {a} {b} u = go (letters_or_same u)
  where
    go : (a ≡ b) ⊎ (IsLetter a × IsLetter b) → f a ≡ f b
    go (inl e) = ap f e
    go (inr l) = all a l.0 ∙ sym (all b l.1)

-- So the sequence lines see one kind, the header line one kind, and neither sees a mark in one of them only.
one_kind : {a b : ℕ} → UpToCase a b → kind_of a ≡ kind_of b
one_kind u = one_class kind_of Letter letter_kind u

one_name_byte : {a b : ℕ} → UpToCase a b → name_byte_of a ≡ name_byte_of b
one_name_byte u = one_class name_byte_of Part letter_part u

one_mark : {a b : ℕ} (c : ℕ) → c < 65 → UpToCase a b → eqb a c ≡ eqb b c
one_mark c h u = one_class (λ (b : ℕ). eqb b c) false (λ b l. ne_eqb b c (letter_other b c h l)) u

-- Two parts of inputs that are the same up to case, byte by byte.
pub data PartsUpToCase : List ℕ → List ℕ → Type 0 where
  none : PartsUpToCase [] []
  more : {a b : ℕ} {s t : List ℕ} → UpToCase a b → PartsUpToCase s t → PartsUpToCase (a ∷ s) (b ∷ t)

-- That they are, by positions.
parts_by_position :
    (s t : List ℕ) → length s ≡ length t → ((k : ℕ) → k < length s → UpToCase (get_or s k 0) (get_or t k 0)) → PartsUpToCase s t
parts_by_position [] [] e h = none
parts_by_position [] (b ∷ t) e h = absurd (omega arith)
parts_by_position (a ∷ s) [] e h = absurd (omega arith)
parts_by_position (a ∷ s) (b ∷ t) e h =
    more (h 0 (omega arith)) (parts_by_position s t (omega arith) (λ k l. h (suc k) (omega arith)))

parts_drop : (n : ℕ) {s t : List ℕ} → PartsUpToCase s t → PartsUpToCase (drop n s) (drop n t)
parts_drop zero r = r
parts_drop (suc n) none = none
parts_drop (suc n) (more u r) = parts_drop n r

-- What the parts begin with, where their first line ends, which name and which letters they have, how their lines end.
start_same : (c : ℕ) → c < 65 → {s t : List ℕ} → PartsUpToCase s t → starts_with c s ≡ starts_with c t
start_same c h none = refl
start_same c h (more u r) = one_mark c h u

line_same : (p : ℕ) {s t : List ℕ} → PartsUpToCase s t → after_line p s ≡ after_line p t
line_same p none = refl
line_same p (more u r) = ap₂ (λ (e : Bool) (q : ℕ). cond e (suc p) q) (one_mark line_end (omega arith) u) (line_same (suc p) r)

name_same : (p count : ℕ) {s t : List ℕ} → PartsUpToCase s t → name_from p count s ≡ name_from p count t
name_same p count none = refl
name_same p count (more u r) =
    ap₂ (λ (k : NameByte) (rest : Result ℕ Fault). name_step k p count rest) (one_name_byte u) (name_same (suc p) (suc count) r)

letters_same : {s t : List ℕ} → PartsUpToCase s t → letters_in s ≡ letters_in t
letters_same none = refl
letters_same (more {a} {b} {s} {t} u r) = ap (λ (k : Kind). letter_before k a (letters_in s)) (one_kind u) ∙ go (kind_of b) (letters_same r)
  where
    go : (k : Kind) → letters_in s ≡ letters_in t → letter_before k a (letters_in s) ≡ letter_before k b (letters_in t)
    go Letter e = ap₂ (λ (c : ℕ) (l : List ℕ). c ∷ l) (one_letter u) e
    go LineEnd e = e
    go CarriageReturn e = e
    go HeaderMark e = e
    go Unfit e = e

-- Only what follows CR matters to a step, and what the bytes after it make of the lines.
step_same : (k : Kind) (p : ℕ) (inside : Bool) (count : ℕ) {s t : List ℕ} {f g : Bool → ℕ → Result Lines Fault} → PartsUpToCase s t →
    ((i : Bool) (c : ℕ) → f i c ≡ g i c) → line_step k p inside count s f ≡ line_step k p inside count t g
step_same Letter p inside count r rest =
    ap (λ (l : Result Lines Fault). cond (ltb count max_letters) l (refused_at TooManyLetters p)) (rest true (suc count))
step_same LineEnd p inside count r rest = rest false count
step_same CarriageReturn p inside count r rest =
    ap₂ (λ (e : Bool) (l : Result Lines Fault). cond e l (refused_at UnfitByte p)) (start_same line_end (omega arith) r) (rest true count)
step_same HeaderMark p inside count r rest = refl
step_same Unfit p inside count r rest = refl

lines_same : (p : ℕ) (inside : Bool) (count : ℕ) {s t : List ℕ} → PartsUpToCase s t → lines_from p inside count s ≡ lines_from p inside count t
lines_same p inside count none = refl
lines_same p inside count (more {a} {b} {s} {t} u r) =
    ap (λ (k : Kind). line_step k p inside count s (λ i c. lines_from (suc p) i c s)) (one_kind u)
    ∙ step_same (kind_of b) p inside count r (λ i c. lines_same (suc p) i c r)

-- Two inputs that are the same up to case,
module _ {x y : List ℕ} (r : PartsUpToCase x y) (p : ℕ) where
  -- have one place where the sequence lines of a record start,
  lines_start_same : lines_start x p ≡ lines_start y p
  lines_start_same = line_same p (parts_drop p r)

  -- one end of its name, or one refusal of it,
  pub name_end_same : name_end x p ≡ name_end y p
  name_end_same =
      ap₂ (λ (h : Bool) (n : Result ℕ Fault). cond h n (refused_at NoHeader p)) (start_same header_mark (omega arith) (parts_drop p r))
      (name_same (suc p) 0 (parts_drop (suc p) r))

  -- one record,
  pub record_same : record_at x p ≡ record_at y p
  record_same =
      ap₂ with_lines name_end_same
      (lines_same (lines_start x p) false 0 (parts_drop (lines_start x p) r) ∙ ap (λ (q : ℕ). lines_from q false 0 (drop q y)) lines_start_same)

  -- and one list of letters.
  pub letters_of_same : record_letters x p ≡ record_letters y p
  letters_of_same = letters_same (parts_drop (lines_start x p) r) ∙ ap (λ (q : ℕ). letters_in (drop q y)) lines_start_same

-- An input with letters in the other case is the same up to case.
pub case_parts : {x y : List ℕ} → CaseChanged x y → PartsUpToCase x y
case_parts {x} {y} c = parts_by_position x y c.size (λ k l. at k l (dec_le k c.header_end))
  where
    at : (k : ℕ) → k < length x → Dec (k ≤ c.header_end) → UpToCase (get_or x k 0) (get_or y k 0)
    at k l (yes h) = same (c.header k h)
    at k l (no n) = c.lines k (omega arith) l
