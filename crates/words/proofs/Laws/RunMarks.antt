-- Every run has a mark of its own, the position that lists it, so that different runs are fewer than the letters of the text, where these are
-- compared.
-- Assumes nothing.
use Rattle.std.specs.Prelude.{◌⊎◌, ℕ, suc, ◌<◌, length}
use Rattle.std.proofs.Common.{inl, inr}
use mathlib.Core.List.{List, Memᴰ}
use Rattle.words.specs.Letters.{Letters, reversed}
use Rattle.words.specs.Runs.{Entry, IsRun}
use Rattle.words.specs.Laws.SpanLyndon.{letters}
use Rattle.words.specs.Laws.Compared.{AllCompared}
use Rattle.words.specs.Different.{Different}
use Rattle.words.specs.Laws.Different.{marked_fewer}
use Rattle.words.specs.Laws.Periods.{run_span, span_run}
use Rattle.words.specs.Laws.RunListing.{listed_run}
use Rattle.words.specs.Laws.RunOrders.{run_listed}
use Rattle.words.specs.Laws.RunMarks.{ListedEntry, RunMark, run_mark_unique, run_mark_range}

module _ {ℓ κ} {A : Type ℓ} (O : Letters {ℓ, κ} A) (z : A) (x : List A) where
  -- What is listed is a run.
  pub listed_is_run : (bound i : ℕ) (r : Entry) → ListedEntry O (letters z x) (length x) bound i r → IsRun x r
  listed_is_run bound i r h =
      span_run z x r.start (suc r.last) r.period
      (listed_run O (letters z x) (length x) bound i r.start (suc r.last) r.period h)

  pub run_mark : AllCompared O (letters z x) (length x) → (r : Entry) → IsRun x r → (i : ℕ) × RunMark O z x r i
  run_mark compared r h =
      go
      (run_listed O (letters z x) (length x) compared r.start (suc r.last) r.period
      (run_span z x r.start (suc r.last) r.period h))
    where
      go : ((i : ℕ) × ListedEntry O (letters z x) (length x) (suc (length x)) i r) ⊎
          ((i : ℕ) × ListedEntry (reversed O) (letters z x) (length x) (length x) i r) → (i : ℕ) × RunMark O z x r i
      go (inl w) = (w.0, inl w.1)
      go (inr w) = (w.0, inr w.1)

  -- Different runs of a text whose letters are compared are fewer than its letters.
  pub compared_fewer : AllCompared O (letters z x) (length x) → 0 < length x → (rs : List Entry) → Different rs →
      ((r : Entry) → Memᴰ r rs → IsRun x r) → length rs < length x
  compared_fewer compared pos rs h f =
      marked_fewer (RunMark O z x) (run_mark_unique O z x) (length x) pos (run_mark_range O z x) rs h (λ r m. run_mark compared r (f r m))
