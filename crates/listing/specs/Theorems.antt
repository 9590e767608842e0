-- What the lister prints, by the rows of the reader and the published definition of runs.
-- Assumes nothing.
use Rattle.std.specs.Prelude.{◌≡◌, refl, List, [], map, ℕ, ◌-◌, take, drop, IsOkAnd, Result, Ok, Err}
use Rattle.std.proofs.Common.{ap, ap₂, subst, ◌∙◌}
use Rattle.words.specs.Equality.{decided_number_equality}
use Rattle.words.specs.Runs.{Entry, IsRunList}
use Rattle.words.specs.Compute.Runs.{runs_of}
use Rattle.words.proofs.Laws.Runs.{run_list_unique}
use Rattle.words.proofs.Laws.RunSearch.{runs_of_holds}
use Rattle.answer.specs.declared.Accepted.{Accepted}
use Rattle.answer.specs.declared.Answer.{Answer}
use Rattle.answer.specs.declared.Refused.{Refused}
use Rattle.answer.specs.declared.Reason.{Reason}
use Rattle.answer.specs.Reasons.{number_of}
use Rattle.answer.specs.Answers.{accepted_with, accepted_after}
use Rattle.answer.specs.Limits.{max_letters}
use Rattle.array.specs.Calls.{run_list}
use Rattle.fasta_record.specs.declared.Fault.{Fault}
use Rattle.fasta_record.specs.Bytes.{letter_of}
use Rattle.fasta_record.specs.Record.{name_end, record_name}
use Rattle.fasta.specs.Rows.{NameEnds, HeaderEnds, sequence_letters}
use Rattle.fasta.specs.CheckOrder.{Refuses, Accepts}
use Rattle.fasta.specs.Case.{CaseChanged}
use Rattle.fasta.specs.Reader.{reader_answer, letters_of}
use Rattle.fasta.proofs.RowTheorems.{refused_exactly, accepted_exactly, accepted_uncompared, letters_are, accepted_name}
use Rattle.fasta.specs.CaseTheorems.{case_answer, case_letters}
use Rattle.fasta.proofs.CaseTheorems.{case_name}
use Rattle.fasta.specs.Laws.NameBytes.{name_unique}
use Rattle.bed.specs.Bed.{bed_lines}
use Rattle.bed.specs.Refusal.{refusal_line}
use Rattle.listing.specs.Listing.{listing_for, listing_of}

module _ (x : List ℕ) where
  -- An input that a row refuses has one line: `refused N at P`, the row's number and position.
  pub refused_listing : (r : Reason) (p : ℕ) → Refuses x max_letters r p → listing_of x ≡ refusal_line (number_of r) p
  refused_listing r p h = ap (λ (a : Answer). listing_for a.outcome x) ((refused_exactly x max_letters r p).1 h)

  -- The name of an input, where it ends.
  named : (p : ℕ) → NameEnds x 0 p → IsOkAnd (name_end x 0) (NameEnds x 0) → record_name x 0 ≡ take (p - 1) (drop 1 x)
  named p name h = go (name_end x 0) h
    where
      go : (n : Result ℕ Fault) → IsOkAnd n (NameEnds x 0) → elim n [ Ok end ↦ take (end - 1) (drop 1 x) | Err fault ↦ [] ] ≡ take (p - 1) (drop 1 x)
      go (Ok end) h = ap (λ (q : ℕ). take (q - 1) (drop 1 x)) (name_unique h name)
      go (Err fault) h = absurd h

  -- Any other has a BED line for each run of what the reader hands on for the letters of its sequence lines, in the order of the run list,
  -- under the name that stands between its '>' and the name's end p. The header line ends at e.
  pub accepted_listing : (c p e : ℕ) (rs : List Entry) → Accepts x max_letters c → NameEnds x 0 p → HeaderEnds x 0 e
      → IsRunList (map letter_of (sequence_letters x e)) rs → listing_of x ≡ bed_lines (take (p - 1) (drop 1 x)) rs
  accepted_listing c p e rs h name header runs =
      let letters : letters_of x ≡ map letter_of (sequence_letters x e) = letters_are x e header in
      let same : runs_of decided_number_equality (letters_of x) ≡ rs =
      run_list_unique
      (subst (λ (l : List ℕ). IsRunList l (runs_of decided_number_equality (letters_of x))) letters (runs_of_holds decided_number_equality (letters_of x)))
      runs in
      let answer = (accepted_exactly x max_letters c).1 h in
      ap (λ (a : Answer). listing_for a.outcome x) answer ∙
      ap₂ bed_lines (named p name (accepted_name x max_letters c answer)) same

-- An input, and the same with any of its sequence letters in the other case, have one listing (document 02, E2).
pub case_listing : {x y : List ℕ} → CaseChanged x y → listing_of x ≡ listing_of y
case_listing {x} {y} c =
    ap (λ (a : Answer). listing_for a.outcome x) answer ∙ go (reader_answer y max_letters).outcome refl
  where
    answer : reader_answer x max_letters ≡ reader_answer y max_letters
    answer = case_answer c max_letters

    go : (o : Result Accepted Refused) → (reader_answer y max_letters).outcome ≡ o → listing_for o x ≡ listing_for o y
    go (Ok told) e =
        let answered : reader_answer y max_letters ≡ accepted_after told.count told.comparisons = ap (λ (o : Result Accepted Refused). record { outcome = o }) e in
        let accepted : reader_answer y max_letters ≡ accepted_with told.count =
        answered ∙ ap (accepted_after told.count) (accepted_uncompared y max_letters answered) in
        ap₂ (λ (name letters : List ℕ). bed_lines name (run_list letters)) (case_name c max_letters told.count (answer ∙ accepted)) (case_letters c)
    go (Err refusal) e = refl
