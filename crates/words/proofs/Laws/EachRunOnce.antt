-- The entries listed position by position from the last to the first, under an order and then under the reversed one, are the runs,
-- each once; in order they are the run list.
-- Assumes nothing.
use Rattle.std.specs.Prelude.{◌≡◌, refl, ◌⊎◌, ℕ, suc, ◌<◌, length}
use Rattle.std.proofs.Common.{sym, subst, inl, inr, arith}
use mathlib.Core.List.Memᴰ
use mathlib.Core.List.{List, [], ◌∷◌, ◌++◌, Memᴰ}
use Rattle.words.specs.Letters.{Letters, reversed}
use Rattle.words.specs.Runs.{Entry, Sorted, IsRun, IsRunList}
use Rattle.words.specs.Laws.SpanLyndon.{letters}
use Rattle.words.specs.Laws.Compared.{AllCompared}
use Rattle.words.specs.Laws.Runs.{InOrder}
use Rattle.words.specs.Different.{Different}
use Rattle.words.specs.Laws.Different.{different_rearranged}
use Rattle.words.specs.Laws.RunMarks.{RunMark}
use Rattle.words.proofs.Laws.RunMarks.{listed_is_run, run_mark}
use Rattle.words.proofs.Laws.RunCount.{runs_fewer}
use Rattle.words.specs.Laws.EachRunOnce.{ListsDown, EachRunOnce, lists_different, runs_apart}

module _ {ℓ κ} {A : Type ℓ} (O : Letters {ℓ, κ} A) (z : A) (x : List A) where
  -- Every entry is a run.
  pub lists_sound : (i k : ℕ) (rs ts : List Entry) → ListsDown O (letters z x) (length x) (suc (length x)) i rs →
      ListsDown (reversed O) (letters z x) (length x) (length x) k ts → (r : Entry) → Memᴰ r (rs ++ ts) → IsRun x r
  lists_sound i k rs ts h g r m = go (Memᴰ.append_cases rs m)
    where
      go : Memᴰ r rs ⊎ Memᴰ r ts → IsRun x r
      go (inl l) = let v = h.sound r l in listed_is_run O z x (suc (length x)) v.place r v.listed
      go (inr l) = let v = g.sound r l in listed_is_run (reversed O) z x (length x) v.place r v.listed

  -- At every step of the two passes fewer entries are written than the text has letters.
  pub lists_fewer : 0 < length x → (i k : ℕ) (rs ts : List Entry) →
      ListsDown O (letters z x) (length x) (suc (length x)) i rs → ListsDown (reversed O) (letters z x) (length x) (length x) k ts →
      length (rs ++ ts) < length x
  lists_fewer pos i k rs ts h g = runs_fewer x pos (rs ++ ts) (lists_different O z x i k rs ts h g) (lists_sound i k rs ts h g)

  -- Both passes together hold every run once.
  pub each_run_once : AllCompared O (letters z x) (length x) → (rs ts : List Entry) →
      ListsDown O (letters z x) (length x) (suc (length x)) 0 rs → ListsDown (reversed O) (letters z x) (length x) (length x) 0 ts →
      EachRunOnce x (rs ++ ts)
  each_run_once compared rs ts h g =
      record {
        sound = lists_sound 0 0 rs ts h g;
        complete = λ r w. go r (run_mark O z x compared r w);
        different = lists_different O z x 0 0 rs ts h g;
      }
    where
      go : (r : Entry) → (i : ℕ) × RunMark O z x r i → Memᴰ r (rs ++ ts)
      go r (i, inl w) = Memᴰ.append_left ts (h.complete r (record { place = i; low = omega arith; listed = w }))
      go r (i, inr w) = Memᴰ.append_right rs (g.complete r (record { place = i; low = omega arith; listed = w }))

module _ {ℓ} {A : Type ℓ} (x : List A) where
  -- Different runs in order are sorted.
  pub runs_sorted : (rs : List Entry) → ((r : Entry) → Memᴰ r rs → IsRun x r) → Different rs → InOrder rs → Sorted rs
  runs_sorted [] f h k = tt
  runs_sorted (r ∷ rs) f h k = (
    λ t m.
        runs_apart x r t (f r (Memᴰ.head refl)) (f t (Memᴰ.tail m))
        (λ e. h.0 (subst (λ (u : Entry). Memᴰ u rs) (sym e) m)) (k.0 t m),
    runs_sorted rs (λ t m. f t (Memᴰ.tail m)) h.1 k.1,
  )

  -- Every run once, rearranged in order, is the run list.
  pub rearranged_run_list : (rs ts : List Entry) → EachRunOnce x rs → ((r : Entry) → Memᴰ r rs → Memᴰ r ts) →
      ((r : Entry) → Memᴰ r ts → Memᴰ r rs) → length ts ≡ length rs → InOrder ts → IsRunList x ts
  rearranged_run_list rs ts w f g l o =
      let sound : (r : Entry) → Memᴰ r ts → IsRun x r = λ r m. w.sound r (g r m) in
      record {
        sound = sound;
        complete = λ r h. f r (w.complete r h);
        sorted = runs_sorted ts sound (different_rearranged ts rs w.different f g (omega arith)) o;
      }
