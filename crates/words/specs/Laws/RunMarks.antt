-- The mark of a run, the position that lists it, is its own. That every run has one, so that different runs are fewer than the letters of the
-- text, where these are compared: `proofs/Laws/RunMarks`.
-- Assumes nothing.
use Rattle.std.specs.Prelude.{◌≡◌, ◌⊎◌, ◌↔◌, ℕ, zero, suc, ◌+◌, ◌-◌, ◌<◌, ◌≤◌, length}
use Rattle.std.proofs.Common.{subst, inl, inr, arith}
use mathlib.Core.List.{List}
use Rattle.words.specs.Letters.{Letters, reversed}
use Rattle.words.specs.Laws.Runs.{entry_equal}
use Rattle.words.specs.Runs.{Entry}
use Rattle.words.specs.Laws.SpanLyndon.{letters}
use Rattle.words.specs.Laws.SuffixOrder.{NextSmaller}
use Rattle.words.specs.Laws.RunExtent.{Extent}
use Rattle.words.specs.Laws.RunListing.{ListedAt, measure_unique, listed_unique, listed_after_start}
use Rattle.words.specs.Laws.RunOrders.{listed_one_each}

-- Position i lists the entry r.
abbrev pub ListedEntry {ℓ κ} : {A : Type ℓ} → Letters {ℓ, κ} A → (ℕ → A) → ℕ → ℕ → ℕ → Entry → Type (ℓ ⊔ κ)
ListedEntry O x n bound i r = ListedAt O x n bound i r.start (suc r.last) r.period

-- The entry of a run from s to e of period p.
abbrev pub run_entry : ℕ → ℕ → ℕ → Entry
run_entry s e p = record { start = s; last = e - 1; period = p }

-- The bound on ends for an order number: under order 0 runs may reach the end of the text, under order 1 not.
abbrev pub end_bound : ℕ → ℕ → ℕ
end_bound zero n = suc n
end_bound (suc order) n = n

-- An end is below the bound exactly under order 0 or inside the text.
pub end_below : (order n e : ℕ) → e ≤ n → (e < end_bound order n) ↔ (0 < order → e < n)
end_below zero n e l = (λ h k. absurd (omega arith), λ h. omega arith)
end_below (suc order) n e l = (λ h k. h, λ h. h (omega arith))

module _ {ℓ κ} {A : Type ℓ} (O : Letters {ℓ, κ} A) (x : ℕ → A) (n bound : ℕ) where
  -- What a position lists, as an entry.
  pub entry_listed : (i s e p : ℕ) → ListedAt O x n bound i s e p → ListedEntry O x n bound i (run_entry s e p)
  entry_listed i s e p h =
      let c : e ≡ suc (e - 1) = omega (arith, h.next.after, h.extent.high) in
      subst (λ (k : ℕ). ListedAt O x n bound i s k p) c h

  -- A position lists one entry at most.
  pub listed_entry_unique : (i : ℕ) (r t : Entry) → ListedEntry O x n bound i r → ListedEntry O x n bound i t → r ≡ t
  listed_entry_unique i r t h k =
      let u = listed_unique O x n bound i r.start (suc r.last) r.period bound t.start (suc t.last) t.period h k in
      entry_equal r t u.0 (omega (arith, u.1)) u.2

  -- A position whose measure fails a test of ListedAt lists nothing.
  pub unlisted : (i s e p : ℕ) → NextSmaller O x n i (i + p) → Extent x n i s e p →
      ¬ ((s + (p + p) ≤ e) × (e < i + (p + p)) × (e < bound)) → (r : Entry) → ¬ ListedEntry O x n bound i r
  unlisted i s e p w m f r h =
      let u = measure_unique O x n i s e p r.start (suc r.last) r.period w m h.next h.extent in
      f
      (omega (arith, h.twice, u.0, u.1, u.2), omega (arith, h.last, u.1, u.2), omega (arith, h.early, u.1))

module _ {ℓ κ} {A : Type ℓ} (O : Letters {ℓ, κ} A) (z : A) (x : List A) where
  -- A position at which a run is listed, under one order or the other.
  abbrev pub RunMark : Entry → ℕ → Type (ℓ ⊔ κ)
  RunMark r i =
      ListedEntry O (letters z x) (length x) (suc (length x)) i r ⊎ ListedEntry (reversed O) (letters z x) (length x) (length x) i r

  -- A position is the mark of one run at most.
  pub run_mark_unique : (r t : Entry) (i : ℕ) → RunMark r i → RunMark t i → r ≡ t
  run_mark_unique r t i (inl h) (inl k) = listed_entry_unique O (letters z x) (length x) (suc (length x)) i r t h k
  run_mark_unique r t i (inr h) (inr k) = listed_entry_unique (reversed O) (letters z x) (length x) (length x) i r t h k
  run_mark_unique r t i (inl h) (inr k) =
      absurd
      (listed_one_each O (letters z x) (length x) (suc (length x)) i r.start (suc r.last) r.period t.start (suc t.last)
      t.period h k)
  run_mark_unique r t i (inr h) (inl k) =
      absurd
      (listed_one_each O (letters z x) (length x) (suc (length x)) i t.start (suc t.last) t.period r.start (suc r.last)
      r.period k h)

  -- No mark is the first position.
  pub run_mark_range : (r : Entry) (i : ℕ) → RunMark r i → (0 < i) × (i < length x)
  run_mark_range r i (inl h) =
      let l : r.start < i =
      listed_after_start O (letters z x) (length x) (suc (length x)) i r.start (suc r.last) r.period h in
      (omega arith, omega (arith, h.next.after, h.next.inside))
  run_mark_range r i (inr h) =
      let l : r.start < i =
      listed_after_start (reversed O) (letters z x) (length x) (length x) i r.start (suc r.last) r.period h in
      (omega arith, omega (arith, h.next.after, h.next.inside))
