-- The strict order of letters: irreflexive by its definition, asymmetric and transitive; comparing two letters has one answer, and cannot
-- be refuted.
-- Assumes nothing.
use Rattle.std.specs.Prelude.{◌≡◌, refl}
use Rattle.std.proofs.Common.{sym, subst}
use Rattle.words.specs.Letters.{Letters, Smaller}
use Rattle.words.specs.Decided.{Comparison, below, same, above, Means}

module _ {ℓ κ} {A : Type ℓ} (O : Letters {ℓ, κ} A) where
  pub smaller_asym : (a b : A) → Smaller O a b → ¬ Smaller O b a
  smaller_asym a b h k = O.not_both a b h.0 (h.1, k.1)

  pub smaller_trans : (a b c : A) → Smaller O a b → Smaller O b c → Smaller O a c
  smaller_trans a b c h k =
      (λ e. smaller_asym a b h (subst (λ (z : A). Smaller O b z) (sym e) k), O.chain a b c h.1 k.1)

  -- Only one answer is right.
  pub one_answer : (c d : Comparison) (a b : A) → Means O c a b → Means O d a b → c ≡ d
  one_answer below below a b m n = refl
  one_answer below same a b m n = absurd (m.0 n.lower)
  one_answer below above a b m n = absurd (smaller_asym a b m n)
  one_answer same below a b m n = absurd (n.0 m.lower)
  one_answer same same a b m n = refl
  one_answer same above a b m n = absurd (n.0 (sym m.lower))
  one_answer above below a b m n = absurd (smaller_asym a b n m)
  one_answer above same a b m n = absurd (m.0 (sym n.lower))
  one_answer above above a b m n = refl

  -- Two letters are compared: an answer and what it means.
  abbrev pub Compared : A → A → Type (ℓ ⊔ κ)
  Compared a b = (c : Comparison) × Means O c a b

  -- That two letters can be compared is not refutable.
  pub compared_irrefutable : (a b : A) → ¬ ¬ Compared a b
  compared_irrefutable a b never =
      let d : ¬ (a ≡ b) = λ e. never (same, record { lower = e }) in
      O.not_neither a b d (λ h. never (below, (d, h)), λ h. never (above, (λ e. d (sym e), h)))
