-- The rows of the reader give at most one answer.
-- Assumes nothing.
use Rattle.std.specs.Prelude.{◌≡◌, List, [], ◌∷◌, ℕ, ◌<◌, length, get_or, Result, Ok, Err}
use Rattle.std.proofs.Math.Path.{refl}
use Rattle.std.proofs.Common.{sym, ap, ap₂, subst, ◌∙◌, arith}
use Rattle.answer.specs.declared.Accepted.{Accepted}
use Rattle.answer.specs.declared.Answer.{Answer}
use Rattle.answer.specs.declared.Refused.{Refused}
use Rattle.answer.specs.declared.Reason.{Reason}
use Rattle.answer.specs.declared.Reason.TheVariants.{EmptyText, TextTooLong, UnknownOrder, WrongTable, ShortOutput, ShortWork, ZeroEntry, CrossingSpans}
use Rattle.answer.specs.declared.Reason.TheVariants.{NoHeader, BadName, UnfitByte, NoLetters, FileTooLong, NotLyndon, UnknownTable, UnwrittenTable}
use Rattle.fasta_record.specs.Bytes.{header_mark}
use Rattle.fasta.specs.Rows.{HeaderEnds, LineStart, UnfitAt, other_byte, return_alone, mark_inside, sequence_letters}
use Rattle.fasta.specs.Rows.{LineRow, unfit_byte, second_record, letter_too_many, no_header, bad_name, in_lines, no_letters}
use Rattle.fasta.specs.Rows.{Row, short_buffer, long_input, in_record}
use Rattle.fasta.specs.CheckOrder.{pass_of, EarlierCheck, by_pass, by_position, Refuses, HasOutcome, HasAnswer}
use Rattle.fasta.specs.Laws.Classes.{letter_other}
use Rattle.fasta.specs.Laws.LineRows.{unfit_no_letter}
use Rattle.fasta.specs.Laws.HeaderLine.{header_unique}
use Rattle.fasta.specs.Laws.RecordRows.{line_pass}

-- A refused outcome, with the reason and the position.
abbrev refused : Reason → ℕ → Result Accepted Refused
refused r p = Err (record { reason = r; position = p })

-- The first reason of each pass.
pass_reason : ℕ → Reason
pass_reason n =
    get_or
    (EmptyText ∷ UnknownTable ∷ UnwrittenTable ∷ EmptyText ∷ TextTooLong ∷ UnknownOrder ∷ WrongTable ∷ ShortOutput ∷ NotLyndon ∷ ShortWork ∷ ZeroEntry ∷
    CrossingSpans ∷ FileTooLong ∷ NoHeader ∷ BadName ∷ UnfitByte ∷ NoLetters ∷ [])
    n EmptyText

module _ (x : List ℕ) {p : ℕ} where
  unfit_no_record : UnfitAt x p → get_or x p 0 ≡ header_mark → LineStart x p → ⊥
  unfit_no_record (other_byte n m o q) b s = q b
  unfit_no_record (return_alone c n) b s = omega arith
  unfit_no_record (mark_inside c n) b s = n s

  -- At one position of the lines one row is given.
  lines_same : {e : ℕ} {r r' : Reason} → LineRow x e r p → LineRow x e r' p → r ≡ r'
  lines_same (unfit_byte i u) (unfit_byte j v) = refl
  lines_same (unfit_byte i u) (second_record j b s) = absurd (unfit_no_record u b s)
  lines_same (unfit_byte i u) (letter_too_many j l c) = absurd (unfit_no_letter x p u l)
  lines_same (second_record i b s) (unfit_byte j v) = absurd (unfit_no_record v b s)
  lines_same (second_record i b s) (second_record j c t) = refl
  lines_same (second_record i b s) (letter_too_many j l c) = absurd (letter_other (get_or x p 0) header_mark (omega arith) l b)
  lines_same (letter_too_many i l c) (unfit_byte j v) = absurd (unfit_no_letter x p v l)
  lines_same (letter_too_many i l c) (second_record j b s) = absurd (letter_other (get_or x p 0) header_mark (omega arith) l b)
  lines_same (letter_too_many i l c) (letter_too_many j m d) = refl

-- A row of the reader is one of the lines, or alone in its pass.
data Placed (x : List ℕ) (r : Reason) (p : ℕ) : Type 0 where
  lined : {e : ℕ} → HeaderEnds x 0 e → LineRow x e r p → Placed x r p
  alone : r ≡ pass_reason (pass_of r) → ¬ (pass_of r ≡ pass_of UnfitByte) → Placed x r p

module _ (x : List ℕ) (places : ℕ) where
  placed : {r : Reason} {p : ℕ} → Row x places r p → Placed x r p
  unfolding pass_reason
  placed (short_buffer h) = alone refl (omega arith)
  placed (long_input h) = alone refl (omega arith)
  placed (in_record (no_header n)) = alone refl (omega arith)
  placed (in_record (bad_name u b)) = alone refl (omega arith)
  placed (in_record (in_lines h l)) = lined h l
  placed (in_record (no_letters h n)) = alone refl (omega arith)

  same_reason : {r r' : Reason} {p : ℕ} → pass_of r ≡ pass_of r' → Placed x r p → Placed x r' p → r ≡ r'
  same_reason {r} {r'} {p} e (lined h l) (lined i m) = lines_same x (subst (λ f. LineRow x f r p) (header_unique h i) l) m
  same_reason e (lined h l) (alone f n) = absurd (omega (arith, line_pass l))
  same_reason e (alone f n) (lined h l) = absurd (omega (arith, line_pass l))
  same_reason e (alone f n) (alone g m) = f ∙ ap pass_reason e ∙ sym g

  -- There are not two first rows.
  refuses_unique : {r r' : Reason} {p p' : ℕ} → Refuses x places r p → Refuses x places r' p' → refused r p ≡ refused r' p'
  refuses_unique {r} {r'} {p} {p'} f g =
      let a : ¬ EarlierCheck r p r' p' = λ h. g.no_earlier r p h f.holds in
      let b : ¬ EarlierCheck r' p' r p = λ h. f.no_earlier r' p' h g.holds in
      let low : ¬ (pass_of r < pass_of r') = λ h. a (by_pass h) in
      let high : ¬ (pass_of r' < pass_of r) = λ h. b (by_pass h) in
      let m : pass_of r ≡ pass_of r' = omega arith in
      let left : ¬ (p < p') = λ h. a (by_position m h) in
      let right : ¬ (p' < p) = λ h. b (by_position (sym m) h) in
      let n : p ≡ p' = omega arith in
      ap₂ refused (same_reason m (subst (λ q. Placed x r q) n (placed f.holds)) (placed g.holds)) n

  outcome_unique : (o o' : Result Accepted Refused) → HasOutcome x places o → HasOutcome x places o' → o ≡ o'
  outcome_unique (Ok accepted) (Ok other) (h, e) (k, f) =
      ap₂ (λ (c q : ℕ). Ok (record { count = c; comparisons = q }))
      (h.counted ∙ ap (λ (i : ℕ). length (sequence_letters x i)) (header_unique h.ends k.ends) ∙ sym k.counted)
      (e ∙ sym f)
  outcome_unique (Ok accepted) (Err refusal) h k = absurd (h.0.no_row refusal.reason refusal.position k.holds)
  outcome_unique (Err refusal) (Ok accepted) h k = absurd (k.0.no_row refusal.reason refusal.position h.holds)
  outcome_unique (Err refusal) (Err other) h k = refuses_unique h k

  pub answer_unique : {a b : Answer} → HasAnswer x places a → HasAnswer x places b → a ≡ b
  answer_unique {a} {b} h k = λ i. record { outcome = outcome_unique a.outcome b.outcome h k i }
