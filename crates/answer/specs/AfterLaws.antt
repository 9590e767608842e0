-- What a buffer holds after a call that refuses, and after one that accepts.
-- Assumes nothing.
use Rattle.std.specs.Prelude.{◌≡◌, List, ℕ, length, take, drop, Result, Ok, Err}
use Rattle.std.proofs.Common.{sym, ap, ◌∙◌, take_at, drop_at}
use Rattle.answer.specs.declared.Reason.{Reason}
use Rattle.answer.specs.declared.Accepted.{Accepted}
use Rattle.answer.specs.declared.Answer.{Answer}
use Rattle.answer.specs.declared.Refused.{Refused}
use Rattle.answer.specs.Answers.{accepted_after, refused_for}
use Rattle.answer.specs.AfterCall.{written, content_in, content_after}

-- An outcome that refuses leaves a buffer as it was.
pub outcome_refused : (o : Result Accepted Refused) {refusal : Refused} → o ≡ Err refusal → (l before : List ℕ) → before ≡ content_in o l before
outcome_refused o e l before = sym (ap (λ (q : Result Accepted Refused). content_in q l before) e)

-- An outcome that accepts leaves what was written.
pub outcome_accepted : (o : Result Accepted Refused) {accepted : Accepted} → o ≡ Ok accepted → (l before after : List ℕ) → after ≡ written l before →
    after ≡ content_in o l before
outcome_accepted o e l before after h = h ∙ sym (ap (λ (q : Result Accepted Refused). content_in q l before) e)

-- A call whose outcome accepts leaves what it has written.
pub content_ok : (a : Answer) {accepted : Accepted} → a.outcome ≡ Ok accepted → (l before : List ℕ) {after : List ℕ} → after ≡ written l before →
    after ≡ content_after a l before
content_ok a e l before {after} h = outcome_accepted a.outcome e l before after h

-- A refused call leaves a buffer as it was.
pub content_refused : (a : Answer) (reason : Reason) (position : ℕ) → a ≡ refused_for reason position → (l before : List ℕ) →
    before ≡ content_after a l before
content_refused a reason position e l before = sym (ap (λ (t : Answer). content_after t l before) e)

-- An accepted call leaves what it has written.
pub content_accepted : (a : Answer) (count : ℕ) {comparisons : ℕ} → a ≡ accepted_after count comparisons → (l before after : List ℕ) →
    after ≡ written l before → after ≡ content_after a l before
content_accepted a count e l before after h = h ∙ sym (ap (λ (t : Answer). content_after t l before) e)

-- What a buffer holds after an answer, it holds after an equal one.
pub content_handed_on : (a b : Answer) (l before after : List ℕ) → a ≡ b → after ≡ content_after a l before → after ≡ content_after b l before
content_handed_on a b l before after q h = h ∙ ap (λ (t : Answer). content_after t l before) q

module _ (r : Answer) (count n : ℕ) (l before : List ℕ) {comparisons : ℕ} (accepted : r ≡ accepted_after count comparisons) (size : length l ≡ n) where
  -- The first n places, for what has n numbers.
  pub written_first : take n (content_after r l before) ≡ l
  written_first = ap (λ (q : Answer). take n (content_after q l before)) accepted ∙ take_at l (drop (length l) before) n size

  -- The places past them.
  pub written_rest : drop n (content_after r l before) ≡ drop n before
  written_rest =
      ap (λ (q : Answer). drop n (content_after q l before)) accepted ∙ drop_at l (drop (length l) before) n size ∙
      ap (λ (k : ℕ). drop k before) size
