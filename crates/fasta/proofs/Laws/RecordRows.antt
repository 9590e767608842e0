-- How a record ends is the first of its rows whose condition holds.
-- Assumes nothing.
use Rattle.std.specs.Prelude.{◌≡◌, Bool, true, false, cond, List, ℕ, suc, ◌-◌, ◌≤◌, ◌<◌, length, take, drop, Result, Ok, Err}
use Rattle.std.proofs.Common.{sym, subst, ap, ◌∙◌, arith}
use Rattle.std.proofs.Math.Seq.{take-length}
use Rattle.answer.specs.declared.Reason.{Reason}
use Rattle.answer.specs.declared.Reason.TheVariants.{NoHeader, NoLetters}
use Rattle.fasta_record.specs.declared.Fault.{Fault}
use Rattle.fasta_record.specs.declared.lines.Lines.{Lines}
use Rattle.fasta_record.specs.declared.lines.Stop.{Stop}
use Rattle.fasta_record.specs.declared.lines.Stop.TheVariants.{NextRecord, InputEnd}
use Rattle.fasta_record.specs.Fault.{refused_at}
use Rattle.fasta_record.specs.Bytes.{header_mark, starts_with}
use Rattle.fasta_record.specs.Name.{name_from}
use Rattle.fasta_record.specs.Lines.{lines_from}
use Rattle.fasta_record.specs.Record.{with_lines, lines_start, record_at}
use Rattle.fasta.specs.Rows.{Stands, NameEnds, HeaderEnds, sequence_letters, LineRow}
use Rattle.fasta.specs.Rows.{RecordRow, no_header, bad_name, in_lines, no_letters}
use Rattle.fasta.specs.CheckOrder.{pass_of, FirstOf}
use Rattle.fasta.specs.Laws.Stands.{StartSays, start_says}
use Rattle.fasta.specs.Laws.NameRows.{NameSays}
use Rattle.fasta.proofs.Laws.NameRows.{named_fits, name_says}
use Rattle.fasta.specs.Laws.LineRows.{CleanTo, StopSays, LinesSay}
use Rattle.fasta.specs.Laws.HeaderLine.{header_unique, LinesBegin, lines_begin, row_in_lines, header_lines_say}
use Rattle.fasta.specs.Laws.RecordRows.{earlier_pass, earlier_position, line_pass, ReadToEnd, LastSays, RecordSays, header_first, name_first}

module _ (x : List ℕ) (s : ℕ) where
  module _ (header : Stands x s header_mark) {n : ℕ} (name : NameEnds x s n) {e : ℕ} (ends : HeaderEnds x s e) where
    -- A row of the record but the last is one of the lines.
    lines_none : {r : Reason} {p : ℕ} → ¬ LineRow x e r p → pass_of r < pass_of NoLetters → ¬ RecordRow x s r p
    lines_none none h (no_header m) = m header
    lines_none {p = p} none h (bad_name u b) = named_fits name p (u, b)
    lines_none {r} {p} none h (in_lines i w) = none (subst (λ f. LineRow x f r p) (header_unique i ends) w)
    lines_none none h (no_letters i m) = omega arith

    -- Refusals 11, 12 and 14.
    lines_first : {q : ℕ} {r : Reason} → LineRow x e r q → CleanTo x e q → FirstOf (RecordRow x s) r q
    lines_first row clean =
        record {
          holds = in_lines ends row;
          no_earlier =
              λ r p h.
              lines_none
              (λ w. clean p (earlier_position h (omega (arith, line_pass row, line_pass w))) r w)
              (omega (arith, earlier_pass h, line_pass row));
        }

    -- None of them.
    lines_whole : {q c : ℕ} → q ≡ length x → CleanTo x e q → c ≡ length (sequence_letters (take q x) e) → ReadToEnd x s n c q
    lines_whole place clean counted =
        record {
          place = place;
          no_earlier = λ r p. lines_none (λ w. clean p (omega (arith, row_in_lines w)) r w);
          name = name;
          header_end = e;
          ends = ends;
          counted = counted ∙ ap (λ (l : List ℕ). length (sequence_letters l e)) (ap (λ (n : ℕ). take n x) place ∙ take-length x);
        }

    -- What the lines say.
    lines_record : (found : Result Lines Fault) → LinesSay x e found → RecordSays x s (with_lines (Ok n) found)
    lines_record (Err fault) h = lines_first h.0 h.1
    lines_record (Ok lines) h = go lines.stop h
      where
        go : (t : Stop) → StopSays x e lines t → LastSays x s (record { name_end = n; lines = lines }) t
        go NextRecord h = lines_first h.0 h.1
        go InputEnd h = lines_whole h.0 h.1 h.2

-- What is found of the record that starts at s.
pub record_says : (x : List ℕ) (s : ℕ) → s ≤ length x → RecordSays x s (record_at x s)
record_says x s h = go (starts_with header_mark (drop s x)) (start_says x s header_mark)
  where
    begin : LinesBegin x s (lines_start x s)
    begin = lines_begin x s h

    found : Result Lines Fault
    found = lines_from (lines_start x s) false 0 (drop (lines_start x s) x)

    named : Stands x s header_mark → (n : Result ℕ Fault) → NameSays x s n → RecordSays x s (with_lines n found)
    named b (Ok p) name = lines_record x s b name begin.ends found (header_lines_say begin)
    named b (Err fault) row = subst (λ r. FirstOf (RecordRow x s) r fault.position) (sym row.0) (name_first x s b row.1 row.2)

    go : (t : Bool) → StartSays x s header_mark t
        → RecordSays x s (with_lines (cond t (name_from (suc s) 0 (drop (suc s) x)) (refused_at NoHeader s)) found)
    go true b =
        let i : s < length x = b.inside in
        named b (name_from (suc s) 0 (drop (suc s) x)) (name_says x s (length x - suc s) (omega arith))
    go false n = header_first x s n
