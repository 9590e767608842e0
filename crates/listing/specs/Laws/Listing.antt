-- What is printed, by the reader's answer and the run list.
-- Assumes nothing.
use Rattle.std.specs.Prelude.{◌≡◌, refl, List, [], ◌∷◌, ◌++◌, ℕ, suc, ◌*◌, ◌≤◌, ◌<◌, length, take, drop}
use Rattle.std.proofs.Common.{sym, ap, ap₂, ◌∙◌, arith, lt-ltb, length-take, length-append, take_all}
use Rattle.std.proofs.Math.Decide.{dec_lt}
use Rattle.words.specs.Runs.{Entry, numbers}
use Rattle.words.specs.Laws.Runs.{numbers_length}
use Rattle.answer.specs.declared.Reason.{Reason}
use Rattle.answer.specs.declared.Reason.TheVariants.{FileTooLong}
use Rattle.answer.specs.declared.Answer.{Answer}
use Rattle.answer.specs.Answers.{accepted_after, refused_for}
use Rattle.answer.specs.AfterCall.{written}
use Rattle.answer.specs.Reasons.{number_of}
use Rattle.answer.specs.Limits.{max_letters, max_input}
use Rattle.array.specs.Calls.{run_list, run_numbers}
use Rattle.fasta.specs.Reader.{reader_answer}
use Rattle.bed.specs.Bed.{entries_of}
use Rattle.bed.specs.Refusal.{refusal_line}
use Rattle.listing.specs.Listing.{record_listing, listing_for, listing_of}

-- The runs are read back from their numbers.
entries_numbers : (rs : List Entry) (rest : List ℕ) → entries_of (length rs) (numbers rs ++ rest) ≡ rs
entries_numbers [] rest = refl
entries_numbers (r ∷ rs) rest = ap (λ (l : List Entry). r ∷ l) (entries_numbers rs rest)

-- In a buffer into which all runs of x were written, of which there are count,
module _ (x list before : List ℕ) (count : ℕ) (counted : count ≡ length (run_list x)) (held : list ≡ written (run_numbers x) before) where
  -- they are read back,
  pub entries_held : entries_of count list ≡ run_list x
  entries_held = ap₂ entries_of counted held ∙ entries_numbers (run_list x) (drop (length (run_numbers x)) before)

  -- and have their place.
  pub runs_within : 3 * count ≤ length list
  runs_within =
      omega (arith, counted, ap length held, length-append (run_numbers x) (drop (length (run_numbers x)) before), numbers_length (run_list x))

-- What is printed for a refused input.
pub listing_refused :
    (x : List ℕ) (reason : Reason) (position : ℕ) → reader_answer x max_letters ≡ refused_for reason position
    → listing_of x ≡ refusal_line (number_of reason) position
listing_refused x reason position e = ap (λ (a : Answer). listing_for a.outcome x) e

-- An input over the limit is refused for its size, whatever it holds.
pub listing_long : (x : List ℕ) → max_input < length x → listing_of x ≡ refusal_line (number_of FileTooLong) max_input
listing_long x h = listing_refused x FileTooLong max_input (rw (lt-ltb max_input (length x) h))

-- One byte over the limit is enough to be read: whatever follows changes nothing.
pub listing_first : (x : List ℕ) → listing_of (take (suc max_input) x) ≡ listing_of x
listing_first x = go (dec_lt max_input (length x))
  where
    go : Dec (max_input < length x) → listing_of (take (suc max_input) x) ≡ listing_of x
    go (yes l) = listing_long (take (suc max_input) x) (omega (arith, length-take (suc max_input) x)) ∙ sym (listing_long x l)
    go (no l) = ap listing_of (take_all (suc max_input) x (omega arith))
