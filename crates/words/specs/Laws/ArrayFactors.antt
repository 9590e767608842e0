-- The starts of the factors read off an array: they are the factorization of every text that has the array. No comparison is decided:
-- each factor's Lyndon word is given by the array, and that factors never rise is a negation.
-- Assumes nothing.
use Rattle.std.specs.Prelude.{◌≡◌, refl, Bool, true, false, List, [], ◌∷◌, ◌++◌, ℕ, zero, suc, ◌+◌, ◌<◌, ◌≤◌, length, drop, ltb}
use Rattle.std.proofs.Common.{sym, ap, ◌∙◌, arith, ltb-true, ltb-false}
use Rattle.std.proofs.Math.Seq.{take-length, drop-length}
use Rattle.words.specs.Letters.{Letters}
use Rattle.words.specs.Word.{span}
use Rattle.words.specs.LyndonArray.{IsLyndonArray}
use Rattle.words.specs.Factorization.{joined, AllLyndon, NeverRising, starts, IsFactorization}
use Rattle.words.specs.ValidArray.{Valid}
use Rattle.words.specs.ArrayForest.{end_of}
use Rattle.words.specs.ArrayFactors.{starts_from, factor_starts}
use Rattle.words.specs.Laws.SpanLyndon.{letters, length-span, span_split}
use Rattle.words.specs.Laws.Compared.{all_compared_irrefutable}
use Rattle.words.specs.Laws.ArrayNext.{LeadsToNext, array_next}
use Rattle.words.specs.Laws.FactorChain.{LinkedSpans, linked_never_rising}
use Rattle.words.specs.Laws.ValidSpans.{end_after, end_inside}
use Rattle.words.specs.Laws.ArrayValid.{array_valid}

-- s holds i, the end of its span, the end of the span there, and so on up to the end of the array.
abbrev pub EndChain : List ℕ → ℕ → List ℕ → Type 0
EndChain a i [] = i ≡ length a
EndChain a i (j ∷ s) = (i ≡ j) × (i < length a) × EndChain a (end_of a i) s

starts_from_ends : (a : List ℕ) → Valid a → (fuel i : ℕ) → i ≤ length a → length a ≤ fuel + i → EndChain a i (starts_from a fuel i)
starts_from_ends a v zero i p q = omega arith
starts_from_ends a v (suc fuel) i p q =
    go (ltb i (length a)) refl (λ l. starts_from_ends a v fuel (end_of a i) (end_inside a v i l) (omega (arith, end_after a v i l)))
  where
    go : (b : Bool) → ltb i (length a) ≡ b → (i < length a → EndChain a (end_of a i) (starts_from a fuel (end_of a i))) →
        EndChain a i (elim b [ true ↦ i ∷ starts_from a fuel (end_of a i) | false ↦ [] ])
    go true e rest = let l : i < length a = ltb-true i (length a) e in (refl, l, rest l)
    go false e rest = omega (arith, ltb-false i (length a) e)

-- The factor starts of a valid array are the chain of ends from 0.
pub starts_ends : (a : List ℕ) → Valid a → EndChain a 0 (factor_starts a)
starts_ends a v = starts_from_ends a v (length a) 0 (omega arith) (omega arith)

-- That words never rise holds where it cannot be refuted.
never_rising_stable {ℓ κ} : {A : Type ℓ} (O : Letters {ℓ, κ} A) (us : List (List A)) → ¬ ¬ NeverRising O us → NeverRising O us
never_rising_stable O [] h = tt
never_rising_stable O (u ∷ []) h = tt
never_rising_stable O (u ∷ v ∷ us) h = (λ l. h (λ r. r.0 l), never_rising_stable O (v ∷ us) (λ k. h (λ r. k r.1)))

module _ {ℓ κ} {A : Type ℓ} (O : Letters {ℓ, κ} A) (z : A) (x : List A) (a : List ℕ) (h : IsLyndonArray O x a) where
  v : Valid a
  v = array_valid O x a h

  -- The spans between the links of a chain of ends.
  abbrev spans_at : ℕ → List ℕ → List (List A)
  spans_at i [] = []
  spans_at i (j ∷ s) = span i (end_of a i) x ∷ spans_at (end_of a i) s

  inside_text : (i : ℕ) → i < length a → (i < length x) × (end_of a i ≤ length x)
  inside_text i l = omega (arith, end_inside a v i l, h.size)

  spans_start : (i : ℕ) (s : List ℕ) → EndChain a i s → s ≡ starts i (spans_at i s)
  spans_start i [] c = refl
  spans_start i (j ∷ s) c =
      let e : i + length (span i (end_of a i) x) ≡ end_of a i =
      omega (arith, length-span O z x i (end_of a i) (inside_text i c.1).1, end_after a v i c.1) in
      ap (λ (k : ℕ). k ∷ s) (sym c.0) ∙ ap (λ (w : List ℕ). i ∷ w) (spans_start (end_of a i) s c.2) ∙
      ap (λ (k : ℕ). i ∷ starts k (spans_at (end_of a i) s)) (sym e)

  spans_lyndon : (i : ℕ) (s : List ℕ) → EndChain a i s → AllLyndon O (spans_at i s)
  spans_lyndon i [] c = tt
  spans_lyndon i (j ∷ s) c = ((h.entry i (inside_text i c.1).0).lyndon, spans_lyndon (end_of a i) s c.2)

  spans_joined : (i : ℕ) (s : List ℕ) → EndChain a i s → joined (spans_at i s) ≡ drop i x
  spans_joined i [] c =
      let e : i ≡ length x = c ∙ h.size in
      sym (ap (λ (k : ℕ). drop k x) e ∙ drop-length x)
  spans_joined i (j ∷ s) c =
      let e : ℕ = end_of a i in
      let t = take-length x in
      ap (λ (w : List A). span i e x ++ w) (spans_joined e s c.2) ∙
      sym
      (ap (drop i) (sym t) ∙
      span_split O z x i e (length x) (omega (arith, end_after a v i c.1)) (inside_text i c.1).1 (omega arith) ∙
      ap (λ (w : List A). span i e x ++ drop e w) t)

  spans_linked : LeadsToNext O z x a → (i : ℕ) (s : List ℕ) → EndChain a i s → LinkedSpans O z x i (spans_at i s)
  spans_linked leads i [] c = record { lower = c ∙ h.size }
  spans_linked leads i (j ∷ s) c =
      (end_of a i, refl, leads i (inside_text i c.1).0, spans_linked leads (end_of a i) s c.2)

  spans_never_rising : (s : List ℕ) → EndChain a 0 s → NeverRising O (spans_at 0 s)
  spans_never_rising s c =
      never_rising_stable O (spans_at 0 s)
      (λ never.
      all_compared_irrefutable O (letters z x) (length x)
      (λ compared. never (linked_never_rising O z x 0 (spans_at 0 s) (spans_linked (array_next O z x compared a h) 0 s c))))

  factorization_at : IsFactorization O x (factor_starts a)
  factorization_at =
      let s = factor_starts a in
      let c = starts_ends a v in
      record {
        factors = spans_at 0 s;
        whole = spans_joined 0 s c;
        lyndon = spans_lyndon 0 s c;
        never_rising = spans_never_rising s c;
        places = spans_start 0 s c;
      }

-- The factor starts of an array are the factorization of every text that has it.
pub array_factorization {ℓ κ} : {A : Type ℓ} (O : Letters {ℓ, κ} A) (x : List A) (a : List ℕ) → IsLyndonArray O x a → IsFactorization O x (factor_starts a)
array_factorization O [] [] h = record { factors = []; whole = refl; lyndon = tt; never_rising = tt; places = refl }
array_factorization O [] (e ∷ a) h = absurd (omega (arith, h.size))
array_factorization O (c ∷ x) a h = factorization_at O c (c ∷ x) a h
