-- The runs of a text. Only equality of letters is used.
-- Assumes nothing.
use Rattle.std.specs.Prelude.{◌≡◌, ◌⊎◌, ℕ, suc, ◌+◌, ◌<◌, ◌≤◌, length}
use mathlib.Core.List.{List, [], ◌∷◌, Memᴰ}
use Rattle.std.proofs.Math.ListN.{get_elem?}
use Rattle.words.specs.Sorted.{SortedBy}

-- The letters at i and at k are equal.
abbrev pub SameLetter {ℓ} : {A : Type ℓ} → List A → ℕ → ℕ → Type ℓ
SameLetter x i k = get_elem? x i ≡ get_elem? x k

-- p is a period of the span from s to e: letters at distance p in it are equal.
abbrev pub HasPeriod {ℓ} : {A : Type ℓ} → List A → ℕ → ℕ → ℕ → Type ℓ
HasPeriod x s e p = (i : ℕ) → s ≤ i → i + p < e → SameLetter x i (i + p)

-- The span from s to e is a run of smallest period p (document 01: "a span whose smallest period p has 2p ≤ its length, and which has no
-- neighbour letter that continues period p"). `Laws/LargerPeriods` shows that this is document 002's run ("Runs (1)"), which with a
-- neighbour letter has only larger periods.
pub record Run {ℓ} {A : Type ℓ} (x : List A) (s e p : ℕ) : Type ℓ where
  pub positive : 0 < p
  pub twice : s + (p + p) ≤ e
  pub inside : e ≤ length x
  pub period : HasPeriod x s e p
  pub smallest : (q : ℕ) → 0 < q → q < p → ¬ HasPeriod x s e q
  pub no_left : (i : ℕ) → s ≡ suc i → ¬ SameLetter x i (i + p)
  pub no_right : (i : ℕ) → e ≡ i + p → e < length x → ¬ SameLetter x i e

-- One entry of a run list (document 01, "The calls"): start, last position and period.
pub record Entry : Type 0 where
  pub start : ℕ
  pub last : ℕ
  pub period : ℕ

-- By start and then by last position (document 01, "The calls").
abbrev pub Earlier : Entry → Entry → Type 0
Earlier r t = (r.start < t.start) ⊎ ((r.start ≡ t.start) × (r.last < t.last))

-- Each entry stands before all that follow it.
abbrev pub Sorted : List Entry → Type 0
Sorted = SortedBy Earlier

abbrev pub IsRun {ℓ} : {A : Type ℓ} → List A → Entry → Type ℓ
IsRun x r = Run x r.start (suc r.last) r.period

-- rs lists the runs of x (document 01, "The calls"): it holds an entry exactly when it is a run, by start and then by last position,
-- none twice; `Memᴰ r rs` says that r stands in the list rs.
pub record IsRunList {ℓ} {A : Type ℓ} (x : List A) (rs : List Entry) : Type ℓ where
  pub sound : (r : Entry) → Memᴰ r rs → IsRun x r
  pub complete : (r : Entry) → IsRun x r → Memᴰ r rs
  pub sorted : Sorted rs

-- The numbers that a run list is written as (document 01, "The calls"): start, last position, period for each run.
abbrev pub numbers : List Entry → List ℕ
numbers [] = []
numbers (r ∷ rs) = r.start ∷ r.last ∷ r.period ∷ numbers rs
