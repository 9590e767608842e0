-- The reader's answer is the one that the rows give, by what the checks say. The whole, `reader_says`, stands in `proofs/Laws/CheckOrder`.
-- Assumes nothing.
use Rattle.std.specs.Prelude.{◌≡◌, refl, Bool, true, false, cond, List, ℕ, ◌≤◌, ◌<◌, eqb, length, Result, Ok, Err}
use Rattle.std.proofs.Common.{arith, eqb-true}
use Rattle.std.proofs.lemmas.Bool.{eqb-false}
use Rattle.std.proofs.lemmas.List.{nil_from_length}
use Rattle.answer.specs.declared.Reason.{Reason}
use Rattle.answer.specs.declared.Reason.TheVariants.{ShortOutput, NoLetters, FileTooLong}
use Rattle.answer.specs.Limits.{max_letters, max_input}
use Rattle.fasta_record.specs.declared.Fault.{Fault}
use Rattle.fasta_record.specs.declared.Record.{Record}
use Rattle.fasta_record.specs.declared.lines.Stop.{Stop}
use Rattle.fasta_record.specs.declared.lines.Stop.TheVariants.{NextRecord, InputEnd}
use Rattle.fasta_record.specs.Fault.{refused_at}
use Rattle.fasta.specs.Reader.{only_stopped, only_found, answer_for}
use Rattle.fasta.specs.Rows.{sequence_letters, RecordRow, no_letters, Row, short_buffer, long_input, in_record}
use Rattle.fasta.specs.CheckOrder.{EarlierCheck, FirstOf, Refuses, Accepts, HasAnswer}
use Rattle.fasta.specs.Laws.RecordRows.{earlier_pass, earlier_position, record_pass, last_only, ReadToEnd, LastSays, RecordSays}

module _ (x : List ℕ) (places : ℕ) where
  -- Refusal 4.
  pub short_first : places < max_letters → Refuses x places ShortOutput 0
  short_first h = record { holds = short_buffer h; no_earlier = none }
    where
      none : (r : Reason) (p : ℕ) → EarlierCheck r p ShortOutput 0 → ¬ Row x places r p
      none r p l (short_buffer k) = omega (arith, earlier_position l (omega arith))
      none r p l (long_input k) = omega (arith, earlier_pass l)
      none r p l (in_record w) = omega (arith, earlier_pass l, record_pass w)

  -- Refusal 15.
  pub long_first : max_letters ≤ places → max_input < length x → Refuses x places FileTooLong max_input
  long_first h i = record { holds = long_input i; no_earlier = none }
    where
      none : (r : Reason) (p : ℕ) → EarlierCheck r p FileTooLong max_input → ¬ Row x places r p
      none r p l (short_buffer k) = omega arith
      none r p l (long_input k) = omega (arith, earlier_position l (omega arith))
      none r p l (in_record w) = omega (arith, earlier_pass l, record_pass w)

  module _ (room : max_letters ≤ places) (size : length x ≤ max_input) where
    -- A row is one of the record.
    record_only : {r : Reason} {p : ℕ} → ¬ RecordRow x 0 r p → ¬ Row x places r p
    record_only n (short_buffer k) = omega arith
    record_only n (long_input k) = omega arith
    record_only n (in_record w) = n w

    record_first : {r : Reason} {p : ℕ} → FirstOf (RecordRow x 0) r p → Refuses x places r p
    record_first f = record { holds = in_record f.holds; no_earlier = λ r p h. record_only (f.no_earlier r p h) }

    -- Refusal 13.
    none_first : {n c p : ℕ} → ReadToEnd x 0 n c p → c ≡ 0 → FirstOf (RecordRow x 0) NoLetters (length x)
    none_first w z =
        record {
          holds = no_letters w.ends (nil_from_length (sequence_letters x w.header_end) (omega (arith, w.counted)));
          no_earlier = λ r p h k. omega (arith, last_only w k, earlier_position h (omega (arith, last_only w k)));
        }

    -- No row at all.
    accepts : {n c p : ℕ} → ReadToEnd x 0 n c p → ¬ (c ≡ 0) → Accepts x places c
    accepts w n =
        record { no_row = λ r p. record_only (λ k. n (last_only w k).2); header_end = w.header_end; ends = w.ends; counted = w.counted }

    pub answer_says : (found : Result Record Fault) → RecordSays x 0 found → HasAnswer x places (answer_for (only_found found))
    answer_says (Err fault) f = record_first f
    answer_says (Ok found) h = go found.lines.stop h
      where
        none : ReadToEnd x 0 found.name_end found.lines.count found.lines.position → (t : Bool) → eqb found.lines.count 0 ≡ t
            → HasAnswer x places (answer_for (cond t (refused_at NoLetters found.lines.position) (Ok found)))
        none w true z =
            let e : found.lines.position ≡ length x = w.place in
            rw e (record_first (none_first w (eqb-true found.lines.count 0 z)))
        none w false z = (accepts w (eqb-false found.lines.count 0 z), refl)

        go : (t : Stop) → LastSays x 0 found t → HasAnswer x places (answer_for (only_stopped t found))
        go NextRecord f = record_first f
        go InputEnd w = none w (eqb found.lines.count 0) refl
