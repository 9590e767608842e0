-- The run list of a text, computed by search, for letters whose equality is decided by a test.
-- Assumes nothing.
use Rattle.std.specs.Prelude.{◌≡◌, refl, Bool, true, false, not, ◌&&◌, ◌||◌, List, [], ◌∷◌, ◌++◌, ℕ, zero, suc, ◌+◌, ◌-◌, ◌/◌, length, leb}
use Rattle.std.proofs.Math.Option.{Option, none, some}
use Rattle.std.proofs.Math.ListN.{get_elem?}
use Rattle.words.specs.Equality.{DecidedEquality, decided_number_equality}
use Rattle.words.specs.Runs.{Entry, numbers}
use Rattle.words.specs.Compute.Search.{first_from}

-- f passes at each of the d numbers from i on.
abbrev pub all_from : (ℕ → Bool) → ℕ → ℕ → Bool
all_from f i zero = true
all_from f i (suc d) = elim (f i) [ true ↦ all_from f (suc i) d | false ↦ false ]

-- What f gives at each of the d numbers from i on, joined.
abbrev pub list_from : (ℕ → List Entry) → ℕ → ℕ → List Entry
list_from f i zero = []
list_from f i (suc d) = f i ++ list_from f (suc i) d

-- The test of equality where a position may be past the end.
abbrev pub equal_at {ℓ} : {A : Type ℓ} → DecidedEquality A → Option A → Option A → Bool
equal_at E none none = true
equal_at E none (some b) = false
equal_at E (some a) none = false
equal_at E (some a) (some b) = E.equal a b

-- The test of SameLetter.
abbrev pub same_letter {ℓ} : {A : Type ℓ} → DecidedEquality A → List A → ℕ → ℕ → Bool
same_letter E x i k = equal_at E (get_elem? x i) (get_elem? x k)

-- The test of HasPeriod.
abbrev pub has_period {ℓ} : {A : Type ℓ} → DecidedEquality A → List A → ℕ → ℕ → ℕ → Bool
has_period E x s e p = all_from (λ i. same_letter E x i (i + p)) s (e - (s + p))

-- The letter before s does not continue period p.
abbrev pub stops_left {ℓ} : {A : Type ℓ} → DecidedEquality A → List A → ℕ → ℕ → Bool
stops_left E x zero p = true
stops_left E x (suc i) p = not (same_letter E x i (i + p))

-- The letter at e does not continue period p.
abbrev pub stops_right {ℓ} : {A : Type ℓ} → DecidedEquality A → List A → ℕ → ℕ → Bool
stops_right E x e p = leb (length x) e || not (same_letter E x (e - p) e)

-- The smallest period, if it is there and cannot be continued.
abbrev pub period_kept {ℓ} : {A : Type ℓ} → DecidedEquality A → List A → ℕ → ℕ → Option ℕ → Option ℕ
period_kept E x s e none = none
period_kept E x s e (some p) = elim (stops_left E x s p && stops_right E x e p) [ true ↦ some p | false ↦ none ]

-- The period of the run from s to e, if that span is one.
abbrev pub period_of {ℓ} : {A : Type ℓ} → DecidedEquality A → List A → ℕ → ℕ → Option ℕ
period_of E x s e = period_kept E x s e (first_from (has_period E x s e) 1 ((e - s) / 2))

-- The entry of a run with start s and last position l, if there is a period.
abbrev pub entry_for : ℕ → ℕ → Option ℕ → List Entry
entry_for s l none = []
entry_for s l (some p) = record { start = s; last = l; period = p } ∷ []

-- The run from s to last position l, if there is one.
abbrev pub entry_at {ℓ} : {A : Type ℓ} → DecidedEquality A → List A → ℕ → ℕ → List Entry
entry_at E x s l = entry_for s l (period_of E x s (suc l))

-- The runs that start at s, by last position.
abbrev pub runs_from {ℓ} : {A : Type ℓ} → DecidedEquality A → List A → ℕ → List Entry
runs_from E x s = list_from (entry_at E x s) s (length x - s)

-- All runs of x, by start and then by last position.
abbrev pub runs_of {ℓ} : {A : Type ℓ} → DecidedEquality A → List A → List Entry
runs_of E x = list_from (runs_from E x) 0 (length x)

-- The runs of `aaaa`, `a` and `aabaab` (document 01, "Worked by hand" and "The FASTA reader and the repeat lister"). 97 is a, 98 is b.
checked : (numbers (runs_of decided_number_equality (97 ∷ 97 ∷ 97 ∷ 97 ∷ [])) ≡ 0 ∷ 3 ∷ 1 ∷ [])
    × (numbers (runs_of decided_number_equality (97 ∷ [])) ≡ [])
    × (numbers (runs_of decided_number_equality (97 ∷ 97 ∷ 98 ∷ 97 ∷ 97 ∷ 98 ∷ [])) ≡ 0 ∷ 1 ∷ 1 ∷ 0 ∷ 5 ∷ 3 ∷ 3 ∷ 4 ∷ 1 ∷ [])
checked = (refl, refl, refl)
