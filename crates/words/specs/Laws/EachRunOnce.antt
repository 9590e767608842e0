-- The entries listed position by position from the last to the first, under an order and then under the reversed one. That they are the runs,
-- each once, and in order the run list: `proofs/Laws/EachRunOnce`.
-- Assumes nothing.
use Rattle.std.specs.Prelude.{◌≡◌, ◌⊎◌, ℕ, suc, ◌<◌, ◌≤◌, length}
use Rattle.std.proofs.Common.{sym, subst, inl, inr, arith}
use mathlib.Core.List.Memᴰ
use mathlib.Core.List.{List, [], ◌∷◌, ◌++◌, Memᴰ}
use Rattle.std.proofs.Math.Decide.{dec_lt, ℕ_discrete}
use Rattle.words.specs.Letters.{Letters, reversed}
use Rattle.words.specs.Runs.{Run, Entry, Earlier, IsRun}
use Rattle.words.specs.Laws.SpanLyndon.{letters}
use Rattle.words.specs.Laws.Runs.{run_period_unique, NotLater, entry_equal}
use Rattle.words.specs.Different.{Different}
use Rattle.words.specs.Laws.Different.{different_append, different_snoc}
use Rattle.words.specs.Laws.RunListing.{listed_once}
use Rattle.words.specs.Laws.RunOrders.{listed_one_order}
use Rattle.words.specs.Laws.RunMarks.{ListedEntry, listed_entry_unique}

-- A position from i on lists the entry r.
pub record ListedFrom {ℓ κ} {A : Type ℓ} (O : Letters {ℓ, κ} A) (x : ℕ → A) (n bound i : ℕ) (r : Entry) : Type (ℓ ⊔ κ) where
  pub place : ℕ
  pub low : i ≤ place
  pub listed : ListedEntry O x n bound place r

-- rs holds what the positions from i on list, nothing else, and nothing twice.
pub record ListsDown {ℓ κ} {A : Type ℓ} (O : Letters {ℓ, κ} A) (x : ℕ → A) (n bound i : ℕ) (rs : List Entry) : Type (ℓ ⊔ κ) where
  pub sound : (r : Entry) → Memᴰ r rs → ListedFrom O x n bound i r
  pub complete : (r : Entry) → ListedFrom O x n bound i r → Memᴰ r rs
  pub different : Different rs

-- rs holds every run of x, nothing else, and nothing twice.
pub record EachRunOnce {ℓ} {A : Type ℓ} (x : List A) (rs : List Entry) : Type ℓ where
  pub sound : (r : Entry) → Memᴰ r rs → IsRun x r
  pub complete : (r : Entry) → IsRun x r → Memᴰ r rs
  pub different : Different rs

module _ {ℓ κ} {A : Type ℓ} (O : Letters {ℓ, κ} A) (x : ℕ → A) (n bound : ℕ) where
  -- Before the first step nothing is listed.
  pub lists_none : ListsDown O x n bound n []
  lists_none =
      record {
        sound = λ r m. absurd (Memᴰ.not-nil m);
        complete = λ r w. absurd (omega (arith, w.low, w.listed.next.after, w.listed.next.inside));
        different = tt;
      }

  lower : (i : ℕ) (r : Entry) → ListedFrom O x n bound (suc i) r → ListedFrom O x n bound i r
  lower i r w = record { place = w.place; low = omega (arith, w.low); listed = w.listed }

  -- What is listed from i on is listed at i or further on.
  at_or_after : (i : ℕ) (r : Entry) → ListedFrom O x n bound i r → ListedEntry O x n bound i r ⊎ ListedFrom O x n bound (suc i) r
  at_or_after i r w = go (ℕ_discrete w.place i)
    where
      go : Dec (w.place ≡ i) → ListedEntry O x n bound i r ⊎ ListedFrom O x n bound (suc i) r
      go (yes e) = inl (subst (λ (k : ℕ). ListedEntry O x n bound k r) e w.listed)
      go (no e) = inr (record { place = w.place; low = omega (arith, w.low, e); listed = w.listed })

  -- A position that lists nothing.
  pub lists_skip : (i : ℕ) (rs : List Entry) → ListsDown O x n bound (suc i) rs → ((r : Entry) → ¬ ListedEntry O x n bound i r) →
      ListsDown O x n bound i rs
  lists_skip i rs h none =
      record {
        sound = λ r m. lower i r (h.sound r m);
        complete = λ r w. go r (at_or_after i r w);
        different = h.different;
      }
    where
      go : (r : Entry) → ListedEntry O x n bound i r ⊎ ListedFrom O x n bound (suc i) r → Memᴰ r rs
      go r (inl w) = absurd (none r w)
      go r (inr w) = h.complete r w

  -- A position that lists an entry, written after the others.
  pub lists_one : (i : ℕ) (rs : List Entry) (t : Entry) → ListsDown O x n bound (suc i) rs → ListedEntry O x n bound i t →
      ListsDown O x n bound i (rs ++ (t ∷ []))
  lists_one i rs t h k =
      record {
        sound = λ r m. from r (Memᴰ.append_cases rs m);
        complete = λ r w. into r (at_or_after i r w);
        different = different_snoc rs t h.different apart;
      }
    where
      apart : ¬ Memᴰ t rs
      apart m =
          let w : ListedFrom O x n bound (suc i) t = h.sound t m in
          omega (arith, w.low, listed_once O x n bound i bound w.place t.start (suc t.last) t.period k w.listed)

      from : (r : Entry) → Memᴰ r rs ⊎ Memᴰ r (t ∷ []) → ListedFrom O x n bound i r
      from r (inl m) = lower i r (h.sound r m)
      from r (inr m) =
          record {
            place = i;
            low = omega arith;
            listed = subst (λ (u : Entry). ListedEntry O x n bound i u) (sym (Memᴰ.eq_of_singleton m)) k;
          }

      into : (r : Entry) → ListedEntry O x n bound i r ⊎ ListedFrom O x n bound (suc i) r → Memᴰ r (rs ++ (t ∷ []))
      into r (inl w) = Memᴰ.append_right rs (Memᴰ.head (listed_entry_unique O x n bound i r t w k))
      into r (inr w) = Memᴰ.append_left (t ∷ []) (h.complete r w)

module _ {ℓ κ} {A : Type ℓ} (O : Letters {ℓ, κ} A) (z : A) (x : List A) where
  -- What is listed under O from i on and under the reversed order from k on is different.
  pub lists_different : (i k : ℕ) (rs ts : List Entry) → ListsDown O (letters z x) (length x) (suc (length x)) i rs →
      ListsDown (reversed O) (letters z x) (length x) (length x) k ts → Different (rs ++ ts)
  lists_different i k rs ts h g =
      different_append rs ts h.different g.different
      (λ r m l.
      let v = h.sound r m in
      let w = g.sound r l in
      listed_one_order O (letters z x) (length x) (suc (length x)) v.place w.place r.start (suc r.last) r.period
      v.listed w.listed)

module _ {ℓ} {A : Type ℓ} (x : List A) where
  -- Of different runs the one that is not later is earlier.
  pub runs_apart : (r t : Entry) → IsRun x r → IsRun x t → ¬ (r ≡ t) → NotLater r t → Earlier r t
  runs_apart r t h k d (inl l) = inl l
  runs_apart r t h k d (inr q) = go (dec_lt r.last t.last)
    where
      go : Dec (r.last < t.last) → Earlier r t
      go (yes l) = inr (q.0, l)
      go (no l) =
          let a : r.start ≡ t.start = q.0 in
          let b : suc r.last ≡ suc t.last = omega (arith, q.1, l) in
          let k' : Run x r.start (suc r.last) t.period = rw (a, b) k in
          absurd (d (entry_equal r t a (omega (arith, b)) (run_period_unique h k')))
