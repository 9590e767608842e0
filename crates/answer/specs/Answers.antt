-- Answers: how they are made, and the number, value and comparisons of each.
-- Assumes nothing.
use Rattle.std.specs.Prelude.{◌≡◌, refl, Bool, true, false, cond, List, [], ◌∷◌, ℕ, zero, suc, eqb, Result, Ok, Err, is_ok}
use Rattle.std.proofs.Common.{sym, ap, ap₂, ◌∙◌}
use Rattle.answer.specs.declared.Accepted.{Accepted}
use Rattle.answer.specs.declared.Answer.{Answer}
use Rattle.answer.specs.declared.Refused.{Refused}
use Rattle.answer.specs.declared.Reason.{Reason}
use Rattle.answer.specs.declared.Reason.TheVariants.{EmptyText, TextTooLong, UnknownOrder, ShortOutput, ShortWork, ZeroEntry, LongEntry, CrossingSpans}
use Rattle.answer.specs.declared.Reason.TheVariants.{NoHeader, BadName, UnfitByte, SecondRecord, NoLetters, TooManyLetters, FileTooLong}
use Rattle.answer.specs.declared.Reason.TheVariants.{WrongTable, NotLyndon, UnknownTable, UnwrittenTable}
use Rattle.answer.specs.Reasons.{number_of}

-- Accepted, with its count and the letter comparisons that were counted (document 02, E7).
abbrev pub accepted_after : ℕ → ℕ → Answer
accepted_after count comparisons = record { outcome = Ok (record { count = count; comparisons = comparisons }) }

-- Accepted, with its count: in every call but the factor list the second number is 0 (document 02, E7).
abbrev pub accepted_with : ℕ → Answer
accepted_with count = accepted_after count 0

-- What a call that counts no comparisons tells of an accepted input, with its count (document 02, E7).
abbrev pub uncompared : ℕ → Accepted
uncompared count = record { count = count; comparisons = 0 }

-- Refused.
abbrev pub refused_by : Refused → Answer
refused_by refusal = record { outcome = Err refusal }

-- Refused, with the reason and the position.
abbrev pub refused_for : Reason → ℕ → Answer
refused_for reason position = refused_by (record { reason = reason; position = position })

-- Refused where a check fails, else what follows.
abbrev pub refused_if : Bool → Reason → ℕ → Answer → Answer
refused_if fails reason position rest = cond fails (refused_for reason position) rest

-- The number of an outcome: 0 where it accepts, else the reason's.
abbrev pub number_in : Result Accepted Refused → ℕ
number_in (Ok accepted) = 0
number_in (Err refusal) = number_of refusal.reason

-- Its value: the count where it accepts, else the position.
abbrev pub value_in : Result Accepted Refused → ℕ
value_in (Ok accepted) = accepted.count
value_in (Err refusal) = refusal.position

-- Its comparisons: those counted where it accepts, else 0.
abbrev pub comparisons_in : Result Accepted Refused → ℕ
comparisons_in (Ok accepted) = accepted.comparisons
comparisons_in (Err refusal) = 0

-- The number of an answer.
abbrev pub number : Answer → ℕ
number a = number_in a.outcome

-- The value of an answer.
abbrev pub value : Answer → ℕ
value a = value_in a.outcome

-- The comparisons of an answer.
abbrev pub comparisons : Answer → ℕ
comparisons a = comparisons_in a.outcome

-- The reasons in the order of their numbers.
abbrev pub reasons : List Reason
reasons =
    EmptyText ∷ TextTooLong ∷ UnknownOrder ∷ ShortOutput ∷ ShortWork ∷ ZeroEntry ∷ LongEntry ∷ CrossingSpans ∷ NoHeader ∷ BadName ∷ UnfitByte ∷ SecondRecord ∷
    NoLetters ∷ TooManyLetters ∷ FileTooLong ∷ WrongTable ∷ NotLyndon ∷ UnknownTable ∷ UnwrittenTable ∷ []

-- The first reason of a list that has this number; where none has it, which is no answer's, the first of all.
abbrev pub reason_in : List Reason → ℕ → Reason
reason_in [] n = EmptyText
reason_in (reason ∷ others) n = cond (eqb (number_of reason) n) reason (reason_in others n)

-- The answer with this number, value and comparisons. Other numbers than those of the reasons belong to no answer, nor do comparisons where it refuses.
abbrev pub answer_with : ℕ → ℕ → ℕ → Answer
answer_with zero v q = accepted_after v q
answer_with (suc k) v q = refused_for (reason_in reasons (suc k)) v

-- The refusal with this reason's number and position is the one with this reason.
refusal_told : (reason : Reason) (p : ℕ) → answer_with (number_of reason) p 0 ≡ refused_for reason p
refusal_told EmptyText p = refl
refusal_told TextTooLong p = refl
refusal_told UnknownOrder p = refl
refusal_told ShortOutput p = refl
refusal_told ShortWork p = refl
refusal_told ZeroEntry p = refl
refusal_told LongEntry p = refl
refusal_told CrossingSpans p = refl
refusal_told NoHeader p = refl
refusal_told BadName p = refl
refusal_told UnfitByte p = refl
refusal_told SecondRecord p = refl
refusal_told NoLetters p = refl
refusal_told TooManyLetters p = refl
refusal_told FileTooLong p = refl
refusal_told WrongTable p = refl
refusal_told NotLyndon p = refl
refusal_told UnknownTable p = refl
refusal_told UnwrittenTable p = refl

outcome_told : (o : Result Accepted Refused) → answer_with (number_in o) (value_in o) (comparisons_in o) ≡ record { outcome = o }
outcome_told (Ok accepted) = refl
outcome_told (Err refusal) = refusal_told refusal.reason refusal.position

-- Number, value and comparisons tell the whole answer: two answers that have all three in common are equal.
pub answer_told : (a b : Answer) → number a ≡ number b → value a ≡ value b → comparisons a ≡ comparisons b → a ≡ b
answer_told a b p q r =
    sym (outcome_told a.outcome) ∙ ap₂ (λ (n v : ℕ). answer_with n v (comparisons a)) p q ∙ ap (answer_with (number b) (value b)) r ∙
    outcome_told b.outcome

-- No answer is both accepted and refused.
pub accepted_apart : {count comparisons : ℕ} {refusal : Refused} → ¬ (accepted_after count comparisons ≡ refused_by refusal)
accepted_apart e =
    let z : ◌≡◌ {A = Bool} true false = ap (λ (a : Answer). is_ok a.outcome) e in
    cc
