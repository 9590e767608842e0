-- Duval's scan beside document 000's LYNDONSUFFIXTABLE, which asks about the letters y[j] and y[i], i in the first copy of the period.
-- Assumes nothing.
use Rattle.std.specs.Prelude.{◌≡◌, refl, List, ℕ, zero, suc, ◌+◌, ◌-◌, ◌*◌, ◌%◌, ◌<◌, ◌≤◌, length, get_or}
use Rattle.std.proofs.Common.{sym, ap, ◌∙◌, arith, mod-eq_of_lt}
use Rattle.std.proofs.Math.Nat.{mod-eq-sub-mod, mod_self, mod-add-mod, mul-add-mod_self_right}
use Rattle.words.specs.Letters.{Letters}
use Rattle.words.specs.Decided.{Decided, Comparison, below, same, above}
use Rattle.words.specs.Laws.Periods.{period_copies}
use Rattle.words.specs.Laws.SpanLyndon.{letters}
use Rattle.words.specs.Laws.Repetition.{Repetition, repetition_start}
use Rattle.factors.specs.Duval.{Scanned, scan_from, scan_of, copies, restart}
use Rattle.factors.specs.DuvalSteps.{answer_at}
use Rattle.factors.specs.DuvalFactorization.{repeats_same, repeats_above}
use Rattle.factors.specs.DuvalCount.{restart_reached}

-- A scan as document 000 has it, from h = `start` until line 4 finds a smaller letter or line 3 the end of the text; per, i and j are as there, q
-- counts the questions.
abbrev pub indexed_from {ℓ κ} : {A : Type ℓ} {O : Letters {ℓ, κ} A} → Decided O → A → List A → (left start per i j q : ℕ) → Scanned
indexed_from D z x zero start per i j q = record { period = per; end = j; comparisons = q }
indexed_from D z x (suc left) start per i j q =
    elim (D.compare (get_or x j z) (get_or x i z)) [
      | below ↦ record { period = per; end = j; comparisons = suc q }
      | same ↦ indexed_from D z x left start per (start + (i - start + 1) % per) (suc j) (suc q)
      | above ↦ indexed_from D z x left start (suc j - start) start (suc j) (suc q)
    ]

-- The letter of a repetition p places before j is that of the first copy at the same place.
module _ {ℓ κ} {A : Type ℓ} (O : Letters {ℓ, κ} A) (x : ℕ → A) (h p e : ℕ) (r : Repetition O x h p e) where
  some : 0 < p
  some = omega (arith, r.lyndon.non_empty)

  pub first_copy : (j : ℕ) → h + p ≤ j → j ≤ e → x (j - p) ≡ x (h + (j - h) % p)
  first_copy j b c =
      let t : h + (j - h - p) ≡ j - p = omega arith in
      ap x (sym t) ∙ sym (period_copies x h e p some r.period (j - h - p) (omega (arith, some))) ∙
      ap (λ (m : ℕ). x (h + m)) (sym (mod-eq-sub-mod {n = j - h} {m = p} (omega arith)))

module _ {ℓ κ} {A : Type ℓ} {O : Letters {ℓ, κ} A} (D : Decided O) (z : A) (x : List A) where
  -- i is the place in the first copy.
  indexed_from_lem : (left start p i j q : ℕ) → j + left ≡ length x → Repetition O (letters z x) start p j → i ≡ start + (j - start) % p →
      indexed_from D z x left start p i j q ≡ scan_from D z x left start p j q
  indexed_from_lem zero start p i j q e r at = refl
  indexed_from_lem (suc left) start p i j q e r at =
      ap step asked ∙ go (answer_at D z x p j) refl (indexed_from_lem left start)
    where
      -- The question is the same.
      asked : D.compare (get_or x j z) (get_or x i z) ≡ answer_at D z x p j
      asked =
          ap (λ (a : A). D.compare (get_or x j z) a)
          (ap (letters z x) at ∙ sym (first_copy O (letters z x) start p j r j r.whole (omega arith)))

      step : Comparison → Scanned
      step c =
          elim c [
            | below ↦ record { period = p; end = j; comparisons = suc q }
            | same ↦ indexed_from D z x left start p (start + (i - start + 1) % p) (suc j) (suc q)
            | above ↦ indexed_from D z x left start (suc j - start) start (suc j) (suc q)
          ]

      -- And so is the place of the next one.
      next : start + (i - start + 1) % p ≡ start + (suc j - start) % p
      next =
          let k : i - start + 1 ≡ (j - start) % p + 1 = omega arith in
          let m : j - start + 1 ≡ suc j - start = omega (arith, r.whole) in
          ap (λ (a : ℕ). start + a) (ap (λ (a : ℕ). a % p) k ∙ mod-add-mod (j - start) p 1 ∙ ap (λ (a : ℕ). a % p) m)

      go : (c : Comparison) → answer_at D z x p j ≡ c →
          ((p i j q : ℕ) → j + left ≡ length x → Repetition O (letters z x) start p j → i ≡ start + (j - start) % p →
          indexed_from D z x left start p i j q ≡ scan_from D z x left start p j q) →
          step c ≡
          elim c [
            | below ↦ record { period = p; end = j; comparisons = suc q }
            | same ↦ scan_from D z x left start p (suc j) (suc q)
            | above ↦ scan_from D z x left start (suc j - start) (suc j) (suc q)
          ]
      go below c rest = refl
      go same c rest = rest p _ (suc j) (suc q) (omega arith) (repeats_same D z x start p j c r) next
      go above c rest =
          let n : start ≡ start + (suc j - start) % (suc j - start) = omega (arith, mod_self (suc j - start)) in
          rest (suc j - start) start (suc j) (suc q) (omega arith) (repeats_above D z x start p j c r) n

  -- Document 000's scan stops where this one stops, with the same period, and has asked as often.
  pub indexed_scan : (start q : ℕ) → start < length x → indexed_from D z x (length x - suc start) start 1 start (suc start) q ≡ scan_of D z x start q
  indexed_scan start q l =
      let k : suc start - start ≡ 1 = omega arith in
      let n : start ≡ start + (suc start - start) % 1 = omega (arith, ap (λ (a : ℕ). a % 1) k ∙ mod_self 1) in
      indexed_from_lem (length x - suc start) start 1 start (suc start) q (omega arith) (repetition_start O (letters z x) start) n

-- A restart as document 000 has it (line 5): h becomes j − (i − h), and i − h is j − h modulo the period.
pub restart_place : (start : ℕ) (s : Scanned) → 0 < s.period → start ≤ s.end → restart start s ≡ s.end - (s.end - start) % s.period
restart_place start s a b =
    let w = restart_reached s.end start s a b (omega arith) in
    let k = length (copies start s) in
    let e : s.end - start ≡ k * s.period + (s.end - restart start s) = omega (arith, w.inside) in
    let f : (s.end - start) % s.period ≡ s.end - restart start s =
    ap (λ (m : ℕ). m % s.period) e ∙ mul-add-mod_self_right k s.period (s.end - restart start s) ∙ mod-eq_of_lt (omega (arith, w.short, w.inside)) in
    omega (arith, f, w.inside)
