-- What the list that is computed by search holds, and that it is sorted. That it is the run list: `proofs/Laws/RunSearch`.
-- Assumes nothing.
use Rattle.std.specs.Prelude.{◌≡◌, refl, ◌⊎◌, ℕ, zero, suc, ◌+◌, ◌-◌, ◌<◌, ◌≤◌, length}
use Rattle.std.proofs.Common.{sym, inl, inr, arith}
use Rattle.std.proofs.Math.Path.{subst⁻¹}
use mathlib.Core.List.{List, [], ◌∷◌, ◌++◌, Memᴰ}
use Rattle.std.proofs.Math.Option.{Option, none, some}
use Rattle.std.proofs.Math.Decide.{ℕ_discrete}
use Rattle.words.specs.Equality.{DecidedEquality}
use Rattle.words.specs.Runs.{Entry, Earlier, Sorted}
use Rattle.words.specs.Compute.Runs.{list_from, period_of, entry_for, entry_at, runs_from, runs_of}

-- Where a member of a joined list comes from.
pub record FromPart (f : ℕ → List Entry) (i d : ℕ) (r : Entry) : Type 0 where
  pub place : ℕ
  pub low : i ≤ place
  pub high : place < i + d
  pub member : Memᴰ r (f place)

pub list_from_part : (f : ℕ → List Entry) (i d : ℕ) (r : Entry) → Memᴰ r (list_from f i d) → FromPart f i d r
list_from_part f i zero r m = absurd (mathlib.Core.List.Memᴰ.not-nil m)
list_from_part f i (suc d) r m = go (list_from_part f (suc i) d r) (mathlib.Core.List.Memᴰ.append_cases (f i) m)
  where
    go : (Memᴰ r (list_from f (suc i) d) → FromPart f (suc i) d r) → Memᴰ r (f i) ⊎ Memᴰ r (list_from f (suc i) d)
        → FromPart f i (suc d) r
    go g (inl n) = record { place = i; low = omega arith; high = omega arith; member = n }
    go g (inr n) =
        let w : FromPart f (suc i) d r = g n in
        record { place = w.place; low = omega arith; high = omega arith; member = w.member }

pub part_list_from :
    (f : ℕ → List Entry) (i d : ℕ) (r : Entry) (k : ℕ) → i ≤ k → k < i + d → Memᴰ r (f k) → Memᴰ r (list_from f i d)
part_list_from f i zero r k h l m = absurd (omega arith)
part_list_from f i (suc d) r k h l m = go (part_list_from f (suc i) d r k) (ℕ_discrete i k)
  where
    go : (suc i ≤ k → k < suc i + d → Memᴰ r (f k) → Memᴰ r (list_from f (suc i) d)) → Dec (i ≡ k)
        → Memᴰ r (list_from f i (suc d))
    go g (yes z) = mathlib.Core.List.Memᴰ.append_left (list_from f (suc i) d) (subst⁻¹ (λ (n : ℕ). Memᴰ r (f n)) z m)
    go g (no n) = mathlib.Core.List.Memᴰ.append_right (f i) (g (omega arith) (omega arith) m)

pub append_sorted :
    (rs ts : List Entry) → Sorted rs → Sorted ts → ((r t : Entry) → Memᴰ r rs → Memᴰ t ts → Earlier r t)
    → Sorted (rs ++ ts)
append_sorted [] ts h k g = k
append_sorted (r ∷ rs) ts h k g = (
  λ t m. go t (mathlib.Core.List.Memᴰ.append_cases rs m),
  append_sorted rs ts h.1 k (λ u t m n. g u t (mathlib.Core.List.Memᴰ.tail m) n),
)
  where
    go : (t : Entry) → Memᴰ t rs ⊎ Memᴰ t ts → Earlier r t
    go t (inl m) = h.0 t m
    go t (inr m) = g r t (mathlib.Core.List.Memᴰ.head refl) m

-- Parts in order, each part in order, joined in order.
pub list_from_sorted :
    (f : ℕ → List Entry) → ((k : ℕ) → Sorted (f k))
    → ((k l : ℕ) → k < l → (r t : Entry) → Memᴰ r (f k) → Memᴰ t (f l) → Earlier r t) → (i d : ℕ) → Sorted (list_from f i d)
list_from_sorted f h g i zero = tt
list_from_sorted f h g i (suc d) = append_sorted (f i) (list_from f (suc i) d) (h i) (list_from_sorted f h g (suc i) d) after
  where
    after : (r t : Entry) → Memᴰ r (f i) → Memᴰ t (list_from f (suc i) d) → Earlier r t
    after r t m n =
        let w : FromPart f (suc i) d t = list_from_part f (suc i) d t n in
        g i w.place w.low r t m w.member

-- What a member of entry_for is.
pub record IsEntryFor (s l : ℕ) (o : Option ℕ) (r : Entry) : Type 0 where
  pub start : r.start ≡ s
  pub last : r.last ≡ l
  pub period : o ≡ some r.period

pub entry_for_member : (s l : ℕ) (o : Option ℕ) (r : Entry) → Memᴰ r (entry_for s l o) → IsEntryFor s l o r
entry_for_member s l none r m = absurd (mathlib.Core.List.Memᴰ.not-nil m)
entry_for_member s l (some p) r m =
    let e : r ≡ record { start = s; last = l; period = p } = mathlib.Core.List.Memᴰ.eq_of_singleton m in
    record { start = λ i. (e i).start; last = λ i. (e i).last; period = λ i. some (sym (λ k. (e k).period) i) }

pub entry_for_sorted : (s l : ℕ) (o : Option ℕ) → Sorted (entry_for s l o)
entry_for_sorted s l none = tt
entry_for_sorted s l (some p) = (λ t m. absurd (mathlib.Core.List.Memᴰ.not-nil m), tt)

module _ {ℓ} {A : Type ℓ} (E : DecidedEquality A) (x : List A) where
  -- The search finds the entry r.
  pub record Searched (r : Entry) : Type 0 where
    pub inside : r.last < length x
    pub found : period_of E x r.start (suc r.last) ≡ some r.period

  pub runs_from_member : (s : ℕ) (r : Entry) → Memᴰ r (runs_from E x s) → (r.start ≡ s) × Searched r
  runs_from_member s r m =
      let w : FromPart (entry_at E x s) s (length x - s) r = list_from_part (entry_at E x s) s (length x - s) r m in
      let o : Option ℕ = period_of E x s (suc w.place) in
      let v : IsEntryFor s w.place o r = entry_for_member s w.place o r w.member in
      (v.start, record { inside = omega arith; found = rw (v.start, v.last) v.period })

  pub entry_at_earlier :
      (s k l : ℕ) → k < l → (r t : Entry) → Memᴰ r (entry_at E x s k) → Memᴰ t (entry_at E x s l) → Earlier r t
  entry_at_earlier s k l h r t m n =
      let v = entry_for_member s k (period_of E x s (suc k)) r m in
      let w = entry_for_member s l (period_of E x s (suc l)) t n in
      inr (omega arith, omega arith)

  pub runs_from_sorted : (s : ℕ) → Sorted (runs_from E x s)
  runs_from_sorted s =
      let each : (l : ℕ) → Sorted (entry_at E x s l) = λ l. entry_for_sorted s l (period_of E x s (suc l)) in
      list_from_sorted (entry_at E x s) each (entry_at_earlier s) s (length x - s)

  pub runs_from_earlier :
      (k l : ℕ) → k < l → (r t : Entry) → Memᴰ r (runs_from E x k) → Memᴰ t (runs_from E x l) → Earlier r t
  runs_from_earlier k l h r t m n =
      let v = runs_from_member k r m in
      let w = runs_from_member l t n in
      inl (omega arith)

  pub runs_of_sorted : Sorted (runs_of E x)
  runs_of_sorted = list_from_sorted (runs_from E x) runs_from_sorted runs_from_earlier 0 (length x)
