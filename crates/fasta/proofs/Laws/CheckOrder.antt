-- The reader's answer is the one that the rows give.
-- Assumes nothing.
use Rattle.std.specs.Prelude.{◌≡◌, refl, Bool, true, false, List, ℕ, ltb, length}
use Rattle.std.proofs.Common.{arith, ltb-true, ltb-false}
use Rattle.answer.specs.declared.Reason.TheVariants.{ShortOutput, FileTooLong}
use Rattle.answer.specs.Answers.{refused_if}
use Rattle.answer.specs.Limits.{max_letters, max_input}
use Rattle.fasta_record.specs.Record.{record_at}
use Rattle.fasta.specs.Reader.{only_record, answer_for, reader_answer}
use Rattle.fasta.specs.CheckOrder.{HasAnswer}
use Rattle.fasta.proofs.Laws.RecordRows.{record_says}
use Rattle.fasta.specs.Laws.CheckOrder.{short_first, long_first, answer_says}

module _ (x : List ℕ) (places : ℕ) where
  -- The reader's answer is that of the rows.
  pub reader_says : HasAnswer x places (reader_answer x places)
  reader_says = go (ltb places max_letters) (ltb max_input (length x)) refl refl
    where
      go : (s t : Bool) → ltb places max_letters ≡ s → ltb max_input (length x) ≡ t
          → HasAnswer x places
          (refused_if s ShortOutput 0 (refused_if t FileTooLong max_input (answer_for (only_record x))))
      go true t h i = short_first x places (ltb-true places max_letters h)
      go false true h i = long_first x places (ltb-false places max_letters h) (ltb-true max_input (length x) i)
      go false false h i =
          answer_says x places (ltb-false places max_letters h) (ltb-false max_input (length x) i) (record_at x 0) (record_says x 0 (omega arith))
