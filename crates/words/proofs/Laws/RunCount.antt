-- Different runs of a text are fewer than its letters, of whatever kind these are. Where it is decided which letters are equal, numbers may stand
-- for them, and numbers are compared; that it is decided cannot be refuted, and the claim is one about two numbers.
-- Assumes nothing.
use mathlib.Core.List.{List, Memᴰ}
use Rattle.std.specs.Prelude.{ℕ, ◌<◌, length}
use Rattle.std.proofs.Common.{arith}
use Rattle.std.proofs.Math.Decide.{dec_lt}
use Rattle.words.specs.Letters.{rising}
use Rattle.words.specs.Decided.{decided_rising}
use Rattle.words.specs.Different.{Different}
use Rattle.words.specs.Runs.{SameLetter, Entry, Earlier, IsRun, IsRunList}
use Rattle.words.specs.Laws.Compared.{decided_compared}
use Rattle.words.specs.Laws.Runs.{earlier_not_both}
use Rattle.words.specs.Laws.Sorted.{sorted_different}
use Rattle.words.specs.Laws.RunExistence.{letters_numbered, equalities_irrefutable}
use Rattle.words.proofs.Laws.RunMarks.{compared_fewer}
use Rattle.words.specs.Laws.RunRenaming.{run_carried}
use Rattle.words.specs.Laws.SpanLyndon.{letters}

module _ {ℓ} {A : Type ℓ} (x : List A) (pos : 0 < length x) where
  -- Different runs.
  pub runs_fewer : (rs : List Entry) → Different rs → ((r : Entry) → Memᴰ r rs → IsRun x r) → length rs < length x
  runs_fewer rs h f = go (dec_lt (length rs) (length x))
    where
      named : ((i j : ℕ) → i < length x → j < length x → Dec (SameLetter x i j)) → length rs < length x
      named decided =
          let alike = letters_numbered x decided in
          let y : List ℕ = alike.0 in
          let same = alike.1 in
          let fewer : length rs < length y =
          compared_fewer rising 0 y (decided_compared decided_rising (letters 0 y) (length y)) (omega (arith, same.size)) rs h
          (λ r m. run_carried same (f r m)) in
          omega (arith, same.size)

      go : Dec (length rs < length x) → length rs < length x
      go (yes l) = l
      go (no l) = absurd (equalities_irrefutable x (λ decided. l (named decided)))

  -- The runs of a run list.
  pub run_list_fewer : (rs : List Entry) → IsRunList x rs → length rs < length x
  run_list_fewer rs h = runs_fewer rs (sorted_different Earlier earlier_not_both rs h.sorted) h.sound
