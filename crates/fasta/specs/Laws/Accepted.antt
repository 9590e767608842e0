-- An input whose record is taken. What holds of it, `record_input` and `reader_accepted`, stands in `proofs/Laws/Accepted`.
-- Assumes nothing.
use Rattle.std.specs.Prelude.{◌≡◌, refl, Bool, true, false, cond, List, [], ℕ, ◌-◌, ◌≤◌, ◌<◌, eqb, length, take, drop, Result, Ok, Err}
use Rattle.std.proofs.Common.{sym, ap, subst, arith}
use Rattle.std.proofs.lemmas.Bool.{eqb-false}
use Rattle.std.proofs.Math.Seq.{take-length}
use Rattle.answer.specs.declared.Reason.TheVariants.{NoLetters}
use Rattle.answer.specs.Answers.{accepted_after, accepted_apart, value}
use Rattle.answer.specs.Limits.{max_letters}
use Rattle.fasta_record.specs.declared.Fault.{Fault}
use Rattle.fasta_record.specs.declared.Record.{Record}
use Rattle.fasta_record.specs.declared.lines.Lines.{Lines}
use Rattle.fasta_record.specs.declared.lines.Stop.{Stop}
use Rattle.fasta_record.specs.declared.lines.Stop.TheVariants.{NextRecord, InputEnd}
use Rattle.fasta_record.specs.Fault.{refused_at}
use Rattle.fasta_record.specs.Record.{with_lines, name_end, record_name}
use Rattle.fasta.specs.Reader.{only_stopped, only_found, answer_for}
use Rattle.fasta.specs.Rows.{sequence_letters, in_lines}
use Rattle.fasta.specs.Laws.LineRows.{letters_most}
use Rattle.fasta.specs.Laws.RecordRows.{line_pass, ReadToEnd}

refused_apart : {fault : Fault} {read : Record} → ¬ (◌≡◌ {A = Result Record Fault} (Err fault) (Ok read))
refused_apart h = cc

-- A record that is found was read to the input's end, and has letters.
pub record ReadAlone (found : Result Record Fault) (read : Record) : Type 0 where
  pub alone : found ≡ Ok read
  pub last : read.lines.stop ≡ InputEnd
  pub some : 0 < read.lines.count

pub read_alone : (found : Result Record Fault) (read : Record) → only_found found ≡ Ok read → ReadAlone found read
read_alone (Err fault) read h = absurd (refused_apart h)
read_alone (Ok found) read h = go found.lines.stop refl h
  where
    some : found.lines.stop ≡ InputEnd → (t : Bool) → eqb found.lines.count 0 ≡ t
        → cond t (refused_at NoLetters found.lines.position) (Ok found) ≡ Ok read → ReadAlone (Ok found) read
    some e true z h = absurd (refused_apart h)
    some e false z h =
        let same : found ≡ read = cc in
        let n : ¬ (found.lines.count ≡ 0) = eqb-false found.lines.count 0 z in
        rw (← same) (record { alone = refl; last = e; some = omega arith })

    go : (t : Stop) → found.lines.stop ≡ t → only_stopped t found ≡ Ok read → ReadAlone (Ok found) read
    go NextRecord e h = absurd (refused_apart h)
    go InputEnd e h = some e (eqb found.lines.count 0) refl h

-- Its name was found.
pub name_read : (name : Result ℕ Fault) (lines : Result Lines Fault) (read : Record) → with_lines name lines ≡ Ok read → name ≡ Ok read.name_end
name_read (Err fault) lines read h = absurd (refused_apart h)
name_read (Ok end) (Err fault) read h = absurd (refused_apart h)
name_read (Ok end) (Ok lines) read h =
    let same : record { name_end = end; lines = lines } ≡ read = cc in
    ap (λ (r : Record). Ok r.name_end) same

-- The name of an input, by where it ends.
pub record_name_is : (x : List ℕ) {end : ℕ} → name_end x 0 ≡ Ok end → record_name x 0 ≡ take (end - 1) (drop 1 x)
record_name_is x e = ap (λ (n : Result ℕ Fault). elim n [ Ok end ↦ take (end - 1) (drop 1 x) | Err fault ↦ [] ]) e

-- Its letters are counted in the answer.
pub count_read : (found : Result Record Fault) (count : ℕ) {comparisons : ℕ} → answer_for found ≡ accepted_after count comparisons →
    (read : Record) × (found ≡ Ok read) × (read.lines.count ≡ count)
count_read (Err fault) count h = absurd (accepted_apart (sym h))
count_read (Ok read) count h = (read, refl, ap value h)

-- An input whose record is read to its end has not too many letters.
pub whole_most : {x : List ℕ} {n c q : ℕ} → ReadToEnd x 0 n c q → c ≤ max_letters
whole_most {x} w =
    let m : length (sequence_letters (take (length x) x) w.header_end) ≤ max_letters =
    letters_most x w.header_end (length x) (omega arith) (λ k h r l. w.no_earlier r k (omega (arith, line_pass l)) (in_lines w.ends l)) in
    let n : length (sequence_letters x w.header_end) ≤ max_letters =
    subst (λ (l : List ℕ). length (sequence_letters l w.header_end) ≤ max_letters) (take-length x) m in
    omega (arith, w.counted)
