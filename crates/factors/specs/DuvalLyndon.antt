-- Duval's scan from the start of a text stops with the whole text as its period exactly when the text is a Lyndon word.
-- Assumes nothing.
use Rattle.std.specs.Prelude.{◌≡◌, refl, Bool, true, false, List, ℕ, ◌+◌, ◌<◌, ◌≤◌, eqb, length}
use Rattle.std.proofs.Common.{subst, arith, eq-eqb, ne_eqb}
use Rattle.words.specs.Letters.{Letters}
use Rattle.words.specs.Decided.{Decided}
use Rattle.words.specs.Lyndon.{Lyndon}
use Rattle.words.specs.Compute.Lyndon.{lyndonb, lyndonb_true, lyndonb_false}
use Rattle.words.specs.Laws.Position.{SpanLyndon}
use Rattle.words.specs.Laws.SpanLyndon.{letters, lyndon_text, text_lyndon}
use Rattle.words.specs.Laws.SuffixOrder.{NextSmaller}
use Rattle.words.specs.Laws.NextSmaller.{next_lyndon, lyndon_before_next}
use Rattle.factors.specs.Duval.{scan_of}
use Rattle.factors.specs.DuvalSteps.{stretch_of}
use Rattle.factors.specs.DuvalFactorization.{scan_stopped, stopped_next}

module _ {ℓ κ} {A : Type ℓ} {O : Letters {ℓ, κ} A} (D : Decided O) (z : A) (x : List A) where
  -- The factor at the start is the whole text where it has its length, and the text is then a Lyndon word; no Lyndon word reaches past it.
  whole_lyndon : (p : ℕ) → NextSmaller O (letters z x) (length x) 0 p → p ≡ length x → Lyndon O x
  whole_lyndon p m e =
      text_lyndon O z x (subst (λ (b : ℕ). SpanLyndon O (letters z x) 0 b) e (next_lyndon O (letters z x) (length x) 0 p m))

  lyndon_whole : (p : ℕ) → NextSmaller O (letters z x) (length x) 0 p → Lyndon O x → p ≡ length x
  lyndon_whole p m w =
      let l : length x ≤ p = lyndon_before_next O (letters z x) (length x) 0 (length x) p (lyndon_text O z x w) (omega arith) m in
      omega (arith, m.inside)

  -- The test by one scan is that of the definition.
  pub scan_lyndon : (q : ℕ) → 0 < length x → eqb (scan_of D z x 0 q).period (length x) ≡ lyndonb D x
  scan_lyndon q l = go (lyndonb D x) refl
    where
      p : ℕ
      p = (scan_of D z x 0 q).period

      m : NextSmaller O (letters z x) (length x) 0 p
      m = let e : 0 + p ≡ p = omega arith in
          subst (λ (k : ℕ). NextSmaller O (letters z x) (length x) 0 k) e
          (stopped_next O (letters z x) (length x) 0 (stretch_of (scan_of D z x 0 q)) (scan_stopped D z x 0 q l))

      go : (b : Bool) → lyndonb D x ≡ b → eqb p (length x) ≡ b
      go true e = eq-eqb p (length x) (lyndon_whole p m ((lyndonb_true D x).0 e))
      go false e = ne_eqb p (length x) (λ h. (lyndonb_false D x).0 e (whole_lyndon p m h))
