-- What a buffer holds after a call.
-- Assumes nothing.
use Rattle.std.specs.Prelude.{List, ◌++◌, ℕ, length, drop, Result, Ok, Err}
use Rattle.answer.specs.declared.Accepted.{Accepted}
use Rattle.answer.specs.declared.Refused.{Refused}
use Rattle.answer.specs.declared.Answer.{Answer}

-- A buffer into which l was written from its start: places past those written keep their content.
abbrev pub written : List ℕ → List ℕ → List ℕ
written l before = l ++ drop (length l) before

-- What a buffer holds after an outcome: l written into it where the call accepted, else what it held before.
abbrev pub content_in : Result Accepted Refused → List ℕ → List ℕ → List ℕ
content_in (Ok accepted) l before = written l before
content_in (Err refusal) l before = before

-- What a buffer holds after an answer.
abbrev pub content_after : Answer → List ℕ → List ℕ → List ℕ
content_after a l before = content_in a.outcome l before
