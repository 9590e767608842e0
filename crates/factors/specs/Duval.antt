-- Duval's scan, step by step: the starts of the factors that it lists, and the number of letter comparisons that it makes (document 02, E7).
-- Up to the end of the text the steps are those of document 000's LYNDONSUFFIXTABLE without its table: `start` is h, p is per, j is j. There
-- 000 ends, its table being full; here the letters that are in no factor yet are scanned again, as document 02 has it.
-- Assumes nothing.
use Rattle.std.specs.Prelude.{◌≡◌, refl, true, false, List, [], ◌∷◌, ◌++◌, ℕ, zero, suc, ◌+◌, ◌-◌, ◌*◌, ◌<◌, ltb, length, get_or}
use Rattle.std.proofs.Common.{arith}
use Rattle.words.specs.Letters.{Letters}
use Rattle.words.specs.Decided.{Decided, decided_rising, below, same, above}

-- What a scan found: from its start up to `end` the text repeats its first `period` letters, and so many comparisons were made by then.
pub record Scanned : Type 0 where
  pub period : ℕ
  pub end : ℕ
  pub comparisons : ℕ

-- The scan that began at `start` is at position j, with `left` letters from there on; what it has read repeats its first p letters, and q
-- comparisons were made up to now. A step asks how the letter at j compares with the one p before it: a question with three answers, which
-- counts once. A smaller letter stops the scan, an equal one continues the period, and a greater one makes all that has been read the new
-- period. The end of the text stops the scan too, and nothing is asked there. (Document 000, lines 3 to 13; there the letter of the first copy
-- is asked about, y[i], which is the same: `DuvalIndexed`.) z stands for a letter past the end; which one changes nothing (`DuvalPast`).
abbrev pub scan_from {ℓ κ} : {A : Type ℓ} {O : Letters {ℓ, κ} A} → Decided O → A → List A → (left start p j q : ℕ) → Scanned
scan_from D z x zero start p j q = record { period = p; end = j; comparisons = q }
scan_from D z x (suc left) start p j q =
    elim (D.compare (get_or x j z) (get_or x (j - p) z)) [
      | below ↦ record { period = p; end = j; comparisons = suc q }
      | same ↦ scan_from D z x left start p (suc j) (suc q)
      | above ↦ scan_from D z x left start (suc j - start) (suc j) (suc q)
    ]

-- The scan from `start`, after q comparisons: the period that it stops with, where it stops, and the comparisons made by then. It begins
-- behind its first letter, with the period 1 (lines 2 and 7).
abbrev pub scan_of {ℓ κ} : {A : Type ℓ} {O : Letters {ℓ, κ} A} → Decided O → A → List A → (start q : ℕ) → Scanned
scan_of D z x start q = scan_from D z x (length x - suc start) start 1 (suc start) q

-- The starts of the full copies of p letters from `start` up to `end`, at most `most` of them.
abbrev pub copies_from : (most start p end : ℕ) → List ℕ
copies_from zero start p end = []
copies_from (suc most) start p end = elim (ltb end (start + p)) [ true ↦ [] | false ↦ start ∷ copies_from most (start + p) p end ]

-- Every full copy of the period with which a scan from `start` has stopped; there are no more of them than letters.
abbrev pub copies : ℕ → Scanned → List ℕ
copies start s = copies_from s.end start s.period s.end

-- The first letter behind them (document 000, line 5: j − (i − h), the same by `DuvalIndexed` `restart_place`).
abbrev pub restart : ℕ → Scanned → ℕ
restart start s = start + length (copies start s) * s.period

-- What the scan gives: the starts of the factors, and the number of comparisons.
pub record FactorList : Type 0 where
  pub factors : List ℕ
  pub comparisons : ℕ

-- The factors c, and then those of l.
abbrev pub listed_then : List ℕ → FactorList → FactorList
listed_then c l = record { factors = c ++ l.factors; comparisons = l.comparisons }

-- A scan from `start`, after q comparisons, and those that follow it, at most `most` of them: a stop lists every full copy of the period,
-- and the next scan begins at the first letter not yet in a listed factor.
abbrev pub list_from {ℓ κ} : {A : Type ℓ} {O : Letters {ℓ, κ} A} → Decided O → A → List A → (most start q : ℕ) → FactorList
list_from D z x zero start q = record { factors = []; comparisons = q }
list_from D z x (suc most) start q =
    elim (ltb start (length x)) [
      | true ↦
          let s = scan_of D z x start q in listed_then (copies start s) (list_from D z x most (restart start s) s.comparisons)
      | false ↦ record { factors = []; comparisons = q }
    ]

-- Duval's scan of a text; there are no more scans than letters.
abbrev pub duval {ℓ κ} : {A : Type ℓ} {O : Letters {ℓ, κ} A} → Decided O → A → List A → FactorList
duval D z x = list_from D z x (length x) 0 0

-- Document 01's K6: of `abbababaababbaba` it lists 0, 3, 5, 7 and 15, after 18 comparisons, more than there are letters.
abbrev k6 : List ℕ
k6 = 97 ∷ 98 ∷ 98 ∷ 97 ∷ 98 ∷ 97 ∷ 98 ∷ 97 ∷ 97 ∷ 98 ∷ 97 ∷ 98 ∷ 98 ∷ 97 ∷ 98 ∷ 97 ∷ []

pub duval_example : duval decided_rising 0 k6 ≡ record { factors = 0 ∷ 3 ∷ 5 ∷ 7 ∷ 15 ∷ []; comparisons = 18 }
duval_example = refl

pub more_than_letters : length k6 < (duval decided_rising 0 k6).comparisons
more_than_letters = omega arith

-- Of `aabaa` it lists 0, 3 and 4: four comparisons up to the end of the text, and one more in the `aa` that is left.
pub restart_example : duval decided_rising 0 (97 ∷ 97 ∷ 98 ∷ 97 ∷ 97 ∷ []) ≡ record { factors = 0 ∷ 3 ∷ 4 ∷ []; comparisons = 5 }
restart_example = refl
