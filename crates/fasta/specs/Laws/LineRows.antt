-- The pass over the sequence lines ends at the first position at which the condition of a row holds.
-- Assumes nothing.
use Rattle.std.specs.Prelude.{◌≡◌, refl, Bool, true, false, cond, List, ℕ, zero, suc, ◌+◌, ◌-◌, ◌≤◌, ◌<◌, ltb, length, get_or, take, drop, Result, Ok, Err}
use Rattle.std.proofs.Common.{ap, arith, ltb-true, ltb-false, drop_of_length-le, drop-cons}
use Rattle.std.proofs.Math.Decide.{dec_lt}
use Rattle.words.specs.Laws.Numbers.{below_suc}
use Rattle.answer.specs.declared.Reason.{Reason}
use Rattle.answer.specs.declared.Reason.TheVariants.{UnfitByte, SecondRecord, TooManyLetters}
use Rattle.answer.specs.Limits.{max_letters}
use Rattle.fasta_record.specs.declared.bytes.Kind.{Kind}
use Rattle.fasta_record.specs.declared.bytes.Kind.TheVariants.{Letter, LineEnd, CarriageReturn, HeaderMark, Unfit}
use Rattle.fasta_record.specs.declared.Fault.{Fault}
use Rattle.fasta_record.specs.declared.lines.Lines.{Lines}
use Rattle.fasta_record.specs.declared.lines.Stop.{Stop}
use Rattle.fasta_record.specs.declared.lines.Stop.TheVariants.{NextRecord, InputEnd}
use Rattle.fasta_record.specs.Fault.{refused_at}
use Rattle.fasta_record.specs.Bytes.{kind_of, header_mark, line_end, carriage_return, starts_with}
use Rattle.fasta.specs.Classes.{IsLetter, letter?}
use Rattle.fasta_record.specs.Lines.{line_step, lines_from}
use Rattle.fasta.specs.Rows.{Stands, InLines, LineStart, UnfitAt, other_byte, return_alone, mark_inside, sequence_letters}
use Rattle.fasta.specs.Rows.{LineRow, unfit_byte, second_record, letter_too_many}
use Rattle.fasta.specs.Laws.Classes.{KindSays, kind_says, letter_other}
use Rattle.fasta.specs.Laws.SequenceLetters.{letters_none, letters_more, letters_same}
use Rattle.fasta.specs.Laws.Stands.{StartSays, start_says}

-- No row's condition holds in the lines behind e before p.
abbrev pub CleanTo : List ℕ → ℕ → ℕ → Type 0
CleanTo x e p = (k : ℕ) → k < p → (r : Reason) → ¬ LineRow x e r k

-- What lines say that stop so, of those behind e.
abbrev pub StopSays : List ℕ → ℕ → Lines → Stop → Type 0
StopSays x e lines NextRecord = LineRow x e SecondRecord lines.position × CleanTo x e lines.position
StopSays x e lines InputEnd =
    (lines.position ≡ length x) × CleanTo x e lines.position × (lines.count ≡ length (sequence_letters (take lines.position x) e))

-- What the pass says of the lines behind e.
abbrev pub LinesSay : List ℕ → ℕ → Result Lines Fault → Type 0
LinesSay x e (Ok lines) = StopSays x e lines lines.stop
LinesSay x e (Err fault) = LineRow x e fault.reason fault.position × CleanTo x e fault.position

-- Whether p is inside a line.
abbrev pub InsideSays : List ℕ → ℕ → Bool → Type 0
InsideSays x p true = ¬ LineStart x p
InsideSays x p false = LineStart x p

-- Where no letter is too many, there are not too many.
pub letters_most : (x : List ℕ) (e p : ℕ) → p ≤ length x → CleanTo x e p → length (sequence_letters (take p x) e) ≤ max_letters
letters_most x e zero h clean = omega (arith, ap length (letters_none x e zero (omega arith)))
letters_most x e (suc p) h clean =
    go (dec_lt e p) (letter? (get_or x p 0)) (letters_most x e p (omega arith) (λ k l. clean k (omega arith)))
  where
    go : Dec (e < p) → Dec (IsLetter (get_or x p 0)) → length (sequence_letters (take p x) e) ≤ max_letters
        → length (sequence_letters (take (suc p) x) e) ≤ max_letters
    go (yes b) (yes l) m =
        let here : InLines x e p = record { behind = b; inside = h } in
        let few : ¬ (length (sequence_letters (take p x) e) ≡ max_letters) = λ c. clean p (omega arith) TooManyLetters (letter_too_many here l c) in
        omega (arith, letters_more x e p b h l)
    go (yes b) (no n) m = omega (arith, letters_same x e p b h n)
    go (no n) d m = omega (arith, ap length (letters_none x e (suc p) (omega arith)))

-- What holds where the pass has come to p.
pub record Reached (x : List ℕ) (e p : ℕ) (inside : Bool) (count : ℕ) : Type 0 where
  pub behind : e < p
  pub line : InsideSays x p inside
  pub counted : count ≡ length (sequence_letters (take p x) e)
  pub clean : CleanTo x e p

-- The position behind p starts a line where p has an LF.
behind_line_end : (x : List ℕ) (p : ℕ) → get_or x p 0 ≡ line_end → InsideSays x (suc p) false
behind_line_end x p b =
    let d : suc p - 1 ≡ p = omega arith in
    rw d b

behind_other : (x : List ℕ) (p : ℕ) → ¬ (get_or x p 0 ≡ line_end) → InsideSays x (suc p) true
behind_other x p n =
    let d : suc p - 1 ≡ p = omega arith in
    rw d n

-- An unfit byte is no letter.
pub unfit_no_letter : (x : List ℕ) (p : ℕ) → UnfitAt x p → ¬ IsLetter (get_or x p 0)
unfit_no_letter x p (other_byte n m o q) l = n l
unfit_no_letter x p (return_alone c n) l = letter_other (get_or x p 0) carriage_return (omega arith) l c
unfit_no_letter x p (mark_inside c n) l = letter_other (get_or x p 0) header_mark (omega arith) l c

module _ (x : List ℕ) (e p : ℕ) where
  -- A letter that is not too many.
  letter_fits : IsLetter (get_or x p 0) → length (sequence_letters (take p x) e) < max_letters → (r : Reason) → ¬ LineRow x e r p
  letter_fits l h r (unfit_byte i u) = unfit_no_letter x p u l
  letter_fits l h r (second_record i c s) = letter_other (get_or x p 0) header_mark (omega arith) l c
  letter_fits l h r (letter_too_many i m c) = omega arith

  -- LF.
  line_end_fits : get_or x p 0 ≡ line_end → (r : Reason) → ¬ LineRow x e r p
  line_end_fits b r (unfit_byte i (other_byte n m o q)) = m b
  line_end_fits b r (unfit_byte i (return_alone c n)) = omega arith
  line_end_fits b r (unfit_byte i (mark_inside c n)) = omega arith
  line_end_fits b r (second_record i c s) = omega arith
  line_end_fits b r (letter_too_many i l c) = letter_other (get_or x p 0) line_end (omega arith) l b

  -- CR directly before LF.
  return_fits : get_or x p 0 ≡ carriage_return → Stands x (suc p) line_end → (r : Reason) → ¬ LineRow x e r p
  return_fits b s r (unfit_byte i (other_byte n m o q)) = o b
  return_fits b s r (unfit_byte i (return_alone c n)) = n s
  return_fits b s r (unfit_byte i (mark_inside c n)) = omega arith
  return_fits b s r (second_record i c t) = omega arith
  return_fits b s r (letter_too_many i l c) = letter_other (get_or x p 0) carriage_return (omega arith) l b

module _ (x : List ℕ) (e p : ℕ) (inside : Bool) (count : ℕ) (within : p < length x) (at : Reached x e p inside count)
    (rest : (i : Bool) (c : ℕ) → Reached x e (suc p) i c → LinesSay x e (lines_from (suc p) i c (drop (suc p) x))) where
  here : InLines x e p
  here = record { behind = at.behind; inside = within }

  -- The pass goes on.
  on : (i : Bool) (c : ℕ) → InsideSays x (suc p) i → c ≡ length (sequence_letters (take (suc p) x) e) → ((r : Reason) → ¬ LineRow x e r p)
      → LinesSay x e (lines_from (suc p) i c (drop (suc p) x))
  on i c l n fits =
      rest i c
      (record {
        behind = omega arith;
        line = l;
        counted = n;
        clean = below_suc (λ k. (r : Reason) → ¬ LineRow x e r k) p at.clean fits;
      })

  lines_step : (k : Kind) → KindSays (get_or x p 0) k
      → LinesSay x e (line_step k p inside count (drop (suc p) x) (λ i c. lines_from (suc p) i c (drop (suc p) x)))
  lines_step Letter l = go (ltb count max_letters) refl
    where
      go : (t : Bool) → ltb count max_letters ≡ t
          → LinesSay x e (cond t (lines_from (suc p) true (suc count) (drop (suc p) x)) (refused_at TooManyLetters p))
      go true h =
          let few : count < max_letters = ltb-true count max_letters h in
          let n : count ≡ length (sequence_letters (take p x) e) = at.counted in
          on true (suc count) (behind_other x p (letter_other (get_or x p 0) line_end (omega arith) l))
          (omega (arith, letters_more x e p at.behind within l)) (letter_fits x e p l (omega arith))
      go false h =
          let n : count ≡ length (sequence_letters (take p x) e) = at.counted in
          (letter_too_many here l (omega (arith, ltb-false count max_letters h, letters_most x e p (omega arith) at.clean)), at.clean)
  lines_step LineEnd b =
      on false count (behind_line_end x p b)
      (omega (arith, at.counted, letters_same x e p at.behind within (λ l. letter_other (get_or x p 0) line_end (omega arith) l b)))
      (line_end_fits x e p b)
  lines_step CarriageReturn b = go (starts_with line_end (drop (suc p) x)) (start_says x (suc p) line_end)
    where
      go : (t : Bool) → StartSays x (suc p) line_end t
          → LinesSay x e (cond t (lines_from (suc p) true count (drop (suc p) x)) (refused_at UnfitByte p))
      go true s =
          on true count (behind_other x p (λ c. omega arith))
          (omega (arith, at.counted, letters_same x e p at.behind within (λ l. letter_other (get_or x p 0) carriage_return (omega arith) l b)))
          (return_fits x e p b s)
      go false n = (unfit_byte here (return_alone b n), at.clean)
  lines_step HeaderMark b = go inside at.line
    where
      go : (i : Bool) → InsideSays x p i
          → LinesSay x e (cond i (refused_at UnfitByte p) (Ok (record { count = count; stop = NextRecord; position = p })))
      go true n = (unfit_byte here (mark_inside b n), at.clean)
      go false s = (second_record here b s, at.clean)
  lines_step Unfit n = (unfit_byte here (other_byte n.0 n.1 n.2 n.3), at.clean)

-- The pass from p on, over d bytes.
pub lines_say :
    (x : List ℕ) (e d p : ℕ) (inside : Bool) (count : ℕ) → p + d ≡ length x → Reached x e p inside count
    → LinesSay x e (lines_from p inside count (drop p x))
lines_say x e zero p inside count h at =
    rw (drop_of_length-le x {i = p} (omega arith)) (omega arith, at.clean, at.counted)
lines_say x e (suc d) p inside count h at =
    rw (drop-cons x p 0 (omega arith))
    (lines_step x e p inside count (omega arith) at (λ i c. lines_say x e d (suc p) i c (omega arith)) (kind_of (get_or x p 0)) (kind_says (get_or x p 0)))
