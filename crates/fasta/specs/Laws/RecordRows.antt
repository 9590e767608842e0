-- How a record ends is the first of its rows whose condition holds. Here the header and the name; the rest stands in `proofs/Laws/RecordRows`.
-- Assumes nothing.
use Rattle.std.specs.Prelude.{◌≡◌, refl, List, ℕ, ◌≤◌, ◌<◌, length, Result, Ok, Err}
use Rattle.std.proofs.Common.{ap, ◌∙◌, arith}
use Rattle.answer.specs.declared.Reason.{Reason}
use Rattle.answer.specs.declared.Reason.TheVariants.{NoHeader, BadName, UnfitByte, SecondRecord, NoLetters}
use Rattle.fasta_record.specs.declared.Fault.{Fault}
use Rattle.fasta_record.specs.declared.Record.{Record}
use Rattle.fasta_record.specs.declared.lines.Stop.{Stop}
use Rattle.fasta_record.specs.declared.lines.Stop.TheVariants.{NextRecord, InputEnd}
use Rattle.fasta_record.specs.Bytes.{header_mark}
use Rattle.fasta.specs.Rows.{Stands, NameEnds, HeaderEnds, sequence_letters, LineRow, unfit_byte, second_record, letter_too_many}
use Rattle.fasta.specs.Rows.{RecordRow, no_header, bad_name, in_lines, no_letters}
use Rattle.fasta.specs.CheckOrder.{pass_of, EarlierCheck, by_pass, by_position, FirstOf}
use Rattle.fasta.specs.Laws.NameRows.{NameRow}
use Rattle.fasta.specs.Laws.HeaderLine.{header_unique}

-- An earlier check is in no later pass.
pub earlier_pass : {r r' : Reason} {p p' : ℕ} → EarlierCheck r p r' p' → pass_of r ≤ pass_of r'
earlier_pass (by_pass h) = omega arith
earlier_pass (by_position e h) = omega arith

-- In one pass the earlier check is at a lesser position.
pub earlier_position : {r r' : Reason} {p p' : ℕ} → EarlierCheck r p r' p' → pass_of r' ≤ pass_of r → p < p'
earlier_position (by_pass h) k = absurd (omega arith)
earlier_position (by_position e h) k = h

-- The rows of the lines share one pass.
pub line_pass : {x : List ℕ} {e p : ℕ} {r : Reason} → LineRow x e r p → pass_of r ≡ pass_of UnfitByte
line_pass (unfit_byte i u) = refl
line_pass (second_record i b l) = refl
line_pass (letter_too_many i l c) = refl

-- The header is the first that is checked of a record.
pub record_pass : {x : List ℕ} {s p : ℕ} {r : Reason} → RecordRow x s r p → pass_of NoHeader ≤ pass_of r
record_pass (no_header n) = omega arith
record_pass (bad_name u b) = omega arith
record_pass (in_lines h l) = omega (arith, line_pass l)
record_pass (no_letters h n) = omega arith

-- A record that is read to the input's end p, with its name, which ends at n, and c letters: no row but the last can be given.
pub record ReadToEnd (x : List ℕ) (s n c p : ℕ) : Type 0 where
  pub place : p ≡ length x
  pub no_earlier : (r : Reason) (k : ℕ) → pass_of r < pass_of NoLetters → ¬ RecordRow x s r k
  pub name : NameEnds x s n
  pub header_end : ℕ
  pub ends : HeaderEnds x s header_end
  pub counted : c ≡ length (sequence_letters x header_end)

-- Where a record is read to the end, the only row is the last, and it is one where there is no letter.
pub last_only :
    {x : List ℕ} {s n c p k : ℕ} {r : Reason} → ReadToEnd x s n c p → RecordRow x s r k → (k ≡ length x) × (pass_of r ≡ pass_of NoLetters) × (c ≡ 0)
last_only {k = k} {r = r} w (no_header m) = absurd (w.no_earlier r k (omega arith) (no_header m))
last_only {k = k} {r = r} w (bad_name u b) = absurd (w.no_earlier r k (omega arith) (bad_name u b))
last_only {k = k} {r = r} w (in_lines i l) = absurd (w.no_earlier r k (omega (arith, line_pass l)) (in_lines i l))
last_only {x} w (no_letters i m) =
    (refl, refl, w.counted ∙ ap (λ (e : ℕ). length (sequence_letters x e)) (header_unique w.ends i) ∙ ap length m)

-- What a record whose lines stop so says of the rows of the one that starts at s.
abbrev pub LastSays : List ℕ → ℕ → Record → Stop → Type 0
LastSays x s found NextRecord = FirstOf (RecordRow x s) SecondRecord found.lines.position
LastSays x s found InputEnd = ReadToEnd x s found.name_end found.lines.count found.lines.position

-- What is found of a record says of its rows.
abbrev pub RecordSays : List ℕ → ℕ → Result Record Fault → Type 0
RecordSays x s (Ok found) = LastSays x s found found.lines.stop
RecordSays x s (Err fault) = FirstOf (RecordRow x s) fault.reason fault.position

module _ (x : List ℕ) (s : ℕ) where
  -- Refusal 9.
  pub header_first : ¬ Stands x s header_mark → FirstOf (RecordRow x s) NoHeader s
  header_first n = record { holds = no_header n; no_earlier = none }
    where
      none : (r : Reason) (p : ℕ) → EarlierCheck r p NoHeader s → ¬ RecordRow x s r p
      none r p h (no_header m) = omega (arith, earlier_position h (omega arith))
      none r p h (bad_name u b) = omega (arith, earlier_pass h)
      none r p h (in_lines i l) = omega (arith, earlier_pass h, line_pass l)
      none r p h (no_letters i m) = omega (arith, earlier_pass h)

  -- Refusal 10.
  pub name_first : Stands x s header_mark → {q : ℕ} → NameRow x s q → ((k : ℕ) → k < q → ¬ NameRow x s k) → FirstOf (RecordRow x s) BadName q
  name_first header {q} row clean = record { holds = bad_name row.0 row.1; no_earlier = none }
    where
      none : (r : Reason) (p : ℕ) → EarlierCheck r p BadName q → ¬ RecordRow x s r p
      none r p h (no_header m) = m header
      none r p h (bad_name u b) = clean p (earlier_position h (omega arith)) (u, b)
      none r p h (in_lines i l) = omega (arith, earlier_pass h, line_pass l)
      none r p h (no_letters i m) = omega (arith, earlier_pass h)
