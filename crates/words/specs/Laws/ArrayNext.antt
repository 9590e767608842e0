-- The Lyndon array of a text holds the distances to the next smaller suffixes.
-- Assumes nothing.
use Rattle.std.specs.Prelude.{◌≡◌, List, ℕ, ◌+◌, ◌-◌, ◌<◌, ◌≤◌, length, get_or}
use Rattle.std.proofs.Common.{subst, arith}
use Rattle.words.specs.Letters.{Letters}
use Rattle.words.specs.LyndonArray.{LongestFrom, IsLyndonArray}
use Rattle.words.specs.Laws.Position.{SpanLyndon}
use Rattle.words.specs.Laws.SpanLyndon.{letters, lyndon_span, span_lyndon}
use Rattle.words.specs.Laws.SuffixOrder.{NextSmaller}
use Rattle.words.specs.Laws.NextSmaller.{next_lyndon, lyndon_before_next}
use Rattle.words.specs.Laws.Compared.{AllCompared, longest_next}

module _ {ℓ κ} {A : Type ℓ} (O : Letters {ℓ, κ} A) (z : A) (x : List A) where
  -- Every entry of a leads to the next smaller suffix.
  abbrev pub LeadsToNext : List ℕ → Type (ℓ ⊔ κ)
  LeadsToNext a = (i : ℕ) → i < length x → NextSmaller O (letters z x) (length x) i (i + get_or a i 0)

  pub next_longest : (i l : ℕ) → NextSmaller O (letters z x) (length x) i (i + l) → LongestFrom O x i l
  next_longest i l h =
      record {
        fits = h.inside;
        lyndon = span_lyndon O z x i (i + l) h.inside (next_lyndon O (letters z x) (length x) i (i + l) h);
        longest =
            λ m p q w.
            let c : i + m ≤ i + l =
            lyndon_before_next O (letters z x) (length x) i (i + m) (i + l) (lyndon_span O z x i (i + m) q w) q h in
            omega arith;
      }

  pub next_array : (a : List ℕ) → length a ≡ length x → LeadsToNext a → IsLyndonArray O x a
  next_array a e h = record { size = e; entry = λ i l. next_longest i (get_or a i 0) (h i l) }

  pub longest_leads : AllCompared O (letters z x) (length x) → (i l : ℕ) → LongestFrom O x i l → NextSmaller O (letters z x) (length x) i (i + l)
  longest_leads compared i l h =
      longest_next O (letters z x) (length x) compared i (i + l) (lyndon_span O z x i (i + l) h.fits h.lyndon) h.fits
      (λ b p q w.
      let m : ℕ = b - i in
      let t : b ≡ i + (b - i) = omega arith in
      h.longest m (omega arith) (omega arith)
      (span_lyndon O z x i (i + m) (omega arith) (subst (λ (k : ℕ). SpanLyndon O (letters z x) i k) t w)))

  pub array_next : AllCompared O (letters z x) (length x) → (a : List ℕ) → IsLyndonArray O x a → LeadsToNext a
  array_next compared a h i l = longest_leads compared i (get_or a i 0) (h.entry i l)
