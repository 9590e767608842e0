-- Duval's scan lists the factorization.
-- Assumes nothing.
use Rattle.std.specs.Prelude.{◌≡◌, refl, List, ℕ, zero, suc, ◌+◌, ◌-◌, ◌<◌, ◌≤◌, length}
use Rattle.std.proofs.Common.{sym, subst, inl, inr, arith}
use Rattle.std.proofs.Math.Decide.{dec_lt}
use Rattle.words.specs.Letters.{Letters}
use Rattle.words.specs.Decided.{Decided, Comparison, same, above, Means}
use Rattle.words.specs.Compute.Factorization.{factorization_of, factorization_of_holds}
use Rattle.words.specs.Laws.SpanLyndon.{letters}
use Rattle.words.specs.Laws.SuffixOrder.{NextSmaller}
use Rattle.words.specs.Laws.Repetition.{Repetition, Stops, repetition_start, repetition_longer, repetition_extended, repetition_next, repetition_ends}
use Rattle.words.specs.Laws.FactorChain.{Chain, chain_factorization, factorization_unique}
use Rattle.factors.specs.declared.scan.Stretch.{Stretch}
use Rattle.factors.specs.Duval.{Scanned, FactorList, scan_of, duval}
use Rattle.factors.specs.DuvalSteps.{stretch_of, Bounded, WithinText, answer_at, scan_steps}
use Rattle.factors.specs.DuvalTurns.{unread, stretch_at, stretch_cases, stretch_bounded}
use Rattle.factors.specs.DuvalTurns.{Remaining, OneListed, remaining_all, remaining_step, remaining_none}

-- A scan from `start` has stopped with the stretch s: what it read repeats a Lyndon word, and cannot be continued.
pub record ScanStopped {ℓ κ} {A : Type ℓ} (O : Letters {ℓ, κ} A) (x : ℕ → A) (n start : ℕ) (s : Stretch) : Type (ℓ ⊔ κ) where
  pub repetition : Repetition O x start s.period s.end
  pub inside : s.end ≤ n
  pub stops : Stops O x n s.period s.end

-- While the stretch s holds one more copy of its period, it is that of a scan from `start`.
abbrev pub StoppedWhile {ℓ κ} : {A : Type ℓ} → Letters {ℓ, κ} A → (ℕ → A) → ℕ → ℕ → Stretch → Type (ℓ ⊔ κ)
StoppedWhile O x n start s = start + s.period ≤ s.end → ScanStopped O x n start s

module _ {ℓ κ} {A : Type ℓ} (O : Letters {ℓ, κ} A) (x : ℕ → A) (n : ℕ) where
  -- The first copy is a factor.
  pub stopped_next : (start : ℕ) (s : Stretch) → ScanStopped O x n start s → NextSmaller O x n start (start + s.period)
  stopped_next start s w = repetition_ends O x start s.period s.end w.repetition n w.inside w.stops

  -- And so is the next one, while there is one.
  pub stopped_rest : (start : ℕ) (s : Stretch) → ScanStopped O x n start s → StoppedWhile O x n (start + s.period) s
  stopped_rest start s w l =
      record { repetition = repetition_next O x start s.period s.end w.repetition l; inside = w.inside; stops = w.stops }

module _ {ℓ κ} {A : Type ℓ} {O : Letters {ℓ, κ} A} (D : Decided O) (z : A) (x : List A) where
  -- What an answer means.
  meant : {c : Comparison} (p j : ℕ) → answer_at D z x p j ≡ c → Means O c (letters z x j) (letters z x (j - p))
  meant p j e = subst (λ (c : Comparison). Means O c (letters z x j) (letters z x (j - p))) e (D.right (letters z x j) (letters z x (j - p)))

  -- Where a question is asked, what was read is a Lyndon word repeated; how the answers continue that.
  pub repeats_same : (start p j : ℕ) → answer_at D z x p j ≡ same → Repetition O (letters z x) start p j → Repetition O (letters z x) start p (suc j)
  repeats_same start p j c r = repetition_longer O (letters z x) start p j r (j - p) (omega (arith, r.whole)) (sym (meant p j c).lower)

  pub repeats_above : (start p j : ℕ) → answer_at D z x p j ≡ above → Repetition O (letters z x) start p j →
      Repetition O (letters z x) start (suc j - start) (suc j)
  repeats_above start p j c r =
      repetition_extended O (letters z x) start p j r (j - p) (suc j - start) (omega (arith, r.whole)) (meant p j c) (omega (arith, r.whole))

  -- A scan stops.
  pub scan_stopped : (start q : ℕ) → start < length x → ScanStopped O (letters z x) (length x) start (stretch_of (scan_of D z x start q))
  scan_stopped start q l =
      scan_steps D z x start (λ p j q. Repetition O (letters z x) start p j) (λ s. ScanStopped O (letters z x) (length x) start (stretch_of s))
      (record {
        on_same = λ p j q l c r. repeats_same start p j c r;
        on_above = λ p j q l c r. repeats_above start p j c r;
        on_below =
            λ p j q l c r. record { repetition = r; inside = omega arith; stops = inr (j - p, omega (arith, r.whole), l, meant p j c) };
        on_end = λ p j q l r. record { repetition = r; inside = omega arith; stops = inl l };
      }) q l (repetition_start O (letters z x) start)

  -- The starts in l are those of all factors from `start` on.
  abbrev Factors : ℕ → FactorList → Type (ℓ ⊔ κ)
  Factors start l = Chain O (letters z x) (length x) start l.factors

  -- What remains to be listed are the factors.
  chain_none : (start : ℕ) (s : Scanned) (l : FactorList) → start ≤ length x → length x ≤ start → WithinText (length x) (stretch_of s) →
      Remaining D z x start s l → Factors start l
  chain_none start s l a b k v = subst (Factors start) (sym (remaining_none D z x start s l b k v)) (omega arith)

  chain_remaining : (left start : ℕ) (s : Scanned) (l : FactorList) → start ≤ length x → length x ≤ left + start → WithinText (length x) (stretch_of s) →
      StoppedWhile O (letters z x) (length x) start (stretch_of s) → Remaining D z x start s l → Factors start l
  chain_remaining zero start s l a b k w v = chain_none start s l a (omega arith) k v
  chain_remaining (suc left) start s l a b k w v = go (dec_lt start (length x)) (chain_remaining left)
    where
      t : Scanned
      t = stretch_at D z x start s

      go : Dec (start < length x) →
          ((start : ℕ) (s : Scanned) (l : FactorList) → start ≤ length x → length x ≤ left + start → WithinText (length x) (stretch_of s) →
          StoppedWhile O (letters z x) (length x) start (stretch_of s) → Remaining D z x start s l → Factors start l) →
          Factors start l
      go (no h) rest = chain_none start s l a (omega arith) k v
      go (yes h) rest =
          let o : OneListed D z x start t l = remaining_step D z x start s l h k v in
          let c : Bounded (length x) start (stretch_of t) = stretch_bounded D z x start s h k in
          let d : ScanStopped O (letters z x) (length x) start (stretch_of t) =
          stretch_cases D z x (λ r. ScanStopped O (letters z x) (length x) start (stretch_of r)) start s (λ m. scan_stopped start s.comparisons h) w in
          let m : NextSmaller O (letters z x) (length x) start (start + t.period) = stopped_next O (letters z x) (length x) start (stretch_of t) d in
          subst (Factors start) (sym o.first) (
            refl,
            start + t.period,
            m,
            rest (start + t.period) t o.rest m.inside (omega (arith, c.positive)) (record { positive = c.positive; inside = c.inside })
                (stopped_rest O (letters z x) (length x) start (stretch_of t) d) o.remaining,
          )

  -- The list of Duval's scan is the list of the factor starts, the only one there is.
  pub duval_factorization : (duval D z x).factors ≡ factorization_of D x
  duval_factorization =
      factorization_unique O x (duval D z x).factors (factorization_of D x)
      (chain_factorization O z x (duval D z x).factors
      (chain_remaining (length x) 0 unread (duval D z x) (omega arith) (omega arith)
      (record { positive = omega arith; inside = omega arith }) (λ l. absurd (omega arith)) (remaining_all D z x)))
      (factorization_of_holds D x)
