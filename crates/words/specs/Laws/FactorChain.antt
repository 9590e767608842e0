-- The factors of a text start at 0 and at each next smaller suffix after it; so there is one factorization.
-- Assumes nothing.
use Rattle.std.specs.Prelude.{◌≡◌, refl, ◌⊎◌, List, [], ◌∷◌, ◌++◌, ℕ, zero, suc, ◌+◌, ◌-◌, ◌<◌, ◌≤◌, length, take, drop}
use Rattle.std.proofs.Common.{sym, ap, subst, ◌∙◌, inl, inr, arith, zero-add, suc-add, length-append, length-drop, drop-drop}
use Rattle.std.proofs.Math.Logic.{Lift}
use Rattle.std.proofs.Math.Seq.{take-nil, take-length, drop-length, take-append_seam, drop-append_seam}
use Rattle.words.specs.Letters.{Letters}
use Rattle.words.specs.Word.{span, Less}
use Rattle.words.specs.Lyndon.{Lyndon}
use Rattle.words.specs.Factorization.{joined, AllLyndon, NeverRising, starts, IsFactorization}
use Rattle.words.specs.Laws.Position.{SpanLyndon}
use Rattle.words.specs.Laws.SpanLyndon.{letters, length-span, less_span, span_less, span_split, lyndon_span, span_lyndon}
use Rattle.words.specs.Laws.SuffixOrder.{SuffixLess, NextSmaller, suffix_asym}
use Rattle.words.specs.Laws.NextSmaller.{empty_suffix_less, next_lyndon, next_unique, lyndon_next, less_suffix, suffix_less}
use Rattle.words.specs.Laws.Compared.{AllCompared, all_compared_irrefutable, suffix_compare, numbers_stable}

-- s holds i, the next smaller suffix after it, the next after that, and so on up to n.
abbrev pub Chain {ℓ κ} : {A : Type ℓ} → Letters {ℓ, κ} A → (ℕ → A) → ℕ → ℕ → List ℕ → Type (ℓ ⊔ κ)
Chain O x n i [] = Lift {0, ℓ ⊔ κ} (i ≡ n)
Chain O x n i (j ∷ s) = (i ≡ j) × (e : ℕ) × NextSmaller O x n i e × Chain O x n e s

pub chain_unique {ℓ κ} : {A : Type ℓ} (O : Letters {ℓ, κ} A) (x : ℕ → A) (n i : ℕ) (s t : List ℕ) → Chain O x n i s → Chain O x n i t → s ≡ t
chain_unique O x n i [] [] p q = refl
chain_unique O x n i [] (k ∷ t) p q = absurd (omega (arith, p.lower, q.2.after, q.2.inside))
chain_unique O x n i (j ∷ s) [] p q = absurd (omega (arith, q.lower, p.2.after, p.2.inside))
chain_unique O x n i (j ∷ s) (k ∷ t) p q =
    let e : p.1 ≡ q.1 = next_unique O x n i p.1 q.1 p.2 q.2 in
    let r : s ≡ t =
    chain_unique O x n q.1 s t (subst (λ (m : ℕ). Chain O x n m s) e p.3) q.3 in
    ap (λ (m : ℕ). m ∷ s) (sym p.0 ∙ q.0) ∙ ap (λ (w : List ℕ). k ∷ w) r

pub span_take {ℓ} : {A : Type ℓ} (i m : ℕ) (x : List A) → span i (i + m) x ≡ take m (drop i x)
span_take zero m x = ap (λ (k : ℕ). take k x) (zero-add m)
span_take (suc i) m [] = rw suc-add (sym (take-nil m))
span_take (suc i) m (c ∷ x) = rw suc-add (span_take i m x)

-- The words are the spans between the links of the chain from i.
abbrev pub LinkedSpans {ℓ κ} : {A : Type ℓ} → Letters {ℓ, κ} A → A → List A → ℕ → List (List A) → Type (ℓ ⊔ κ)
LinkedSpans O z x i [] = Lift {0, ℓ ⊔ κ} (i ≡ length x)
LinkedSpans O z x i (u ∷ us) =
    (e : ℕ) × (u ≡ span i e x) × NextSmaller O (letters z x) (length x) i e × LinkedSpans O z x e us

module _ {ℓ κ} {A : Type ℓ} (O : Letters {ℓ, κ} A) (z : A) (x : List A) where
  span_ends : (i e : ℕ) (u : List A) → u ≡ span i e x → i < e → e ≤ length x → i + length u ≡ e
  span_ends i e u h l m = omega (arith, length-span O z x i e m, ap length h)

  pub linked_chain : (i : ℕ) (us : List (List A)) → LinkedSpans O z x i us → Chain O (letters z x) (length x) i (starts i us)
  linked_chain i [] h = record { lower = h.lower }
  linked_chain i (u ∷ us) h =
      let e : i + length u ≡ h.0 = span_ends i h.0 u h.1 h.2.after h.2.inside in (
        refl,
        h.0,
        h.2,
        subst (λ (k : ℕ). Chain O (letters z x) (length x) h.0 (starts k us)) (sym e) (linked_chain h.0 us h.3),
      )

  pub chain_linked : (i : ℕ) (s : List ℕ) → Chain O (letters z x) (length x) i s → (us : List (List A)) × LinkedSpans O z x i us × (starts i us ≡ s)
  chain_linked i [] h = ([], record { lower = h.lower }, refl)
  chain_linked i (j ∷ s) h =
      let r = chain_linked h.1 s h.3 in
      let u : List A = span i h.1 x in
      let e : i + length u ≡ h.1 = span_ends i h.1 u refl h.2.after h.2.inside in
      (u ∷ r.0, (h.1, refl, h.2, r.1), ap (λ (k : ℕ). k ∷ starts (i + length u) r.0) h.0 ∙ ap (λ (k : ℕ). j ∷ starts k r.0) e ∙ ap (λ (w : List ℕ). j ∷ w) r.2)

  pub linked_lyndon : (i : ℕ) (us : List (List A)) → LinkedSpans O z x i us → AllLyndon O us
  linked_lyndon i [] h = tt
  linked_lyndon i (u ∷ us) h = (
    subst (λ (w : List A). Lyndon O w) (sym h.1)
        (span_lyndon O z x i h.0 h.2.inside (next_lyndon O (letters z x) (length x) i h.0 h.2)),
    linked_lyndon h.0 us h.3,
  )

  pub linked_never_rising : (i : ℕ) (us : List (List A)) → LinkedSpans O z x i us → NeverRising O us
  linked_never_rising i [] h = tt
  linked_never_rising i (u ∷ []) h = tt
  linked_never_rising i (u ∷ v ∷ us) h =
      let e : ℕ = h.0 in
      let f : ℕ = h.3.0 in (
        λ l.
            suffix_asym O (letters z x) (length x) i e
            (less_suffix O (letters z x) (length x) i e f h.2.after h.3.2
            (less_span O z x i e e f h.2.inside h.3.2.inside (omega (arith, h.2.after))
            (subst (λ (w : List A). Less O w (span e f x)) h.1 (subst (λ (w : List A). Less O u w) h.3.1 l))))
            h.2.drops,
        linked_never_rising e (v ∷ us) h.3,
      )

  pub linked_joined : (i : ℕ) (us : List (List A)) → LinkedSpans O z x i us → joined us ≡ drop i x
  linked_joined i [] h = sym (ap (λ (k : ℕ). drop k x) h.lower ∙ drop-length x)
  linked_joined i (u ∷ us) h =
      let e : ℕ = h.0 in
      let a : take (length x) x ≡ x = take-length x in
      ap (λ (w : List A). w ++ joined us) h.1 ∙ ap (λ (w : List A). span i e x ++ w) (linked_joined e us h.3) ∙
      sym
      (ap (drop i) (sym a) ∙ span_split O z x i e (length x) (omega (arith, h.2.after)) h.2.inside (omega arith) ∙
      ap (λ (w : List A). span i e x ++ drop e w) a)

  -- The chain from 0 is the factorization.
  pub chain_factorization : (s : List ℕ) → Chain O (letters z x) (length x) 0 s → IsFactorization O x s
  chain_factorization s h =
      let r = chain_linked 0 s h in
      record {
        factors = r.0;
        whole = linked_joined 0 r.0 r.1;
        lyndon = linked_lyndon 0 r.0 r.1;
        never_rising = linked_never_rising 0 r.0 r.1;
        places = sym r.2;
      }

  module _ (compared : AllCompared O (letters z x) (length x)) where
    factors_linked : (i : ℕ) (us : List (List A)) → i ≤ length x → drop i x ≡ joined us → AllLyndon O us → NeverRising O us → LinkedSpans O z x i us
    factors_linked i [] l h a r = record { lower = omega (arith, length-drop i x, ap length h) }
    factors_linked i (u ∷ us) l h a r =
        let e : ℕ = i + length u in
        let k : length x - i ≡ length u + length (joined us) = sym (length-drop i x) ∙ ap length h ∙ length-append u (joined us) in
        let b : e ≤ length x = omega arith in
        let is : u ≡ span i e x =
        sym (span_take i (length u) x ∙ ap (take (length u)) h ∙ take-append_seam u (joined us)) in
        let rest : drop e x ≡ joined us = sym (drop-drop (length u) i x) ∙ ap (drop (length u)) h ∙ drop-append_seam u (joined us) in
        let w : SpanLyndon O (letters z x) i e =
        lyndon_span O z x i e b (subst (λ (t : List A). Lyndon O t) is a.0) in
        last us rest a.1 r is b w (λ r'. factors_linked e us b rest a.1 r')
      where
        last : (vs : List (List A)) → drop (i + length u) x ≡ joined vs → AllLyndon O vs → NeverRising O (u ∷ vs) → u ≡ span i (i + length u) x →
            i + length u ≤ length x → SpanLyndon O (letters z x) i (i + length u) → (NeverRising O vs → LinkedSpans O z x (i + length u) vs) →
            LinkedSpans O z x i (u ∷ vs)
        last [] rest a' r' is b w tail =
            let e : i + length u ≡ length x = (tail tt).lower in (
              i + length u,
              is,
              lyndon_next O (letters z x) (length x) i (i + length u) w b
                  (subst (λ (k : ℕ). SuffixLess O (letters z x) (length x) k i) (sym e)
                  (empty_suffix_less O (letters z x) (length x) i (omega (arith, w.non_empty)))),
              tail tt,
            )
        last (v ∷ vs) rest a' r' is b w tail =
            let t = tail r'.1 in
            let j = i + length u in
            let compared_at = suffix_compare O (letters z x) (length x) compared i j (omega arith) b (λ q. omega (arith, w.non_empty)) in
            (j, is, lyndon_next O (letters z x) (length x) i j w b (drop_at t compared_at), t)
          where
            drop_at : LinkedSpans O z x (i + length u) (v ∷ vs) → SuffixLess O (letters z x) (length x) i (i + length u) ⊎ SuffixLess O (letters z x) (length x) (i + length u) i →
                SuffixLess O (letters z x) (length x) (i + length u) i
            drop_at t (inr s) = s
            drop_at t (inl s) =
                absurd
                (r'.0
                (subst (λ (q : List A). Less O q v) (sym is)
                (subst (λ (q : List A). Less O (span i (i + length u) x) q) (sym t.1)
                (span_less O z x i (i + length u) (i + length u) t.0 b t.2.inside
                (suffix_less O (letters z x) (length x) i (i + length u) t.0 w t.2 s)))))

    -- The factorization is the chain from 0.
    pub factorization_chain : (s : List ℕ) → IsFactorization O x s → Chain O (letters z x) (length x) 0 s
    factorization_chain s h =
        subst (λ (t : List ℕ). Chain O (letters z x) (length x) 0 t) (sym h.places)
        (linked_chain 0 h.factors (factors_linked 0 h.factors (omega arith) (sym h.whole) h.lyndon h.never_rising))

  -- There is one factorization.
  pub factorization_unique_at : (s t : List ℕ) → IsFactorization O x s → IsFactorization O x t → s ≡ t
  factorization_unique_at s t p q =
      numbers_stable s t
      (λ never.
      all_compared_irrefutable O (letters z x) (length x)
      (λ compared. never (chain_unique O (letters z x) (length x) 0 s t (factorization_chain compared s p) (factorization_chain compared t q))))

-- A factorization of the empty text has no factor.
empty_factorization {ℓ κ} : {A : Type ℓ} (O : Letters {ℓ, κ} A) (us : List (List A)) (i : ℕ) → joined us ≡ [] → AllLyndon O us → starts i us ≡ []
empty_factorization O [] i h a = refl
empty_factorization O ([] ∷ us) i h a = absurd (a.0.non_empty refl)
empty_factorization O ((c ∷ u) ∷ us) i h a = absurd (omega (arith, ap length h))

-- A text has one factorization.
pub factorization_unique {ℓ κ} : {A : Type ℓ} (O : Letters {ℓ, κ} A) (x : List A) (s t : List ℕ) → IsFactorization O x s → IsFactorization O x t → s ≡ t
factorization_unique O [] s t p q =
    p.places ∙ empty_factorization O p.factors 0 p.whole p.lyndon ∙
    sym (q.places ∙ empty_factorization O q.factors 0 q.whole q.lyndon)
factorization_unique O (c ∷ x) s t p q = factorization_unique_at O c (c ∷ x) s t p q
