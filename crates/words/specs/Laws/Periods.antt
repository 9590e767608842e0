-- Periods and runs of a text by positions, and how they are those of the definitions.
-- Assumes nothing.
use Rattle.std.specs.Prelude.{◌≡◌, refl, List, [], ◌∷◌, ℕ, zero, suc, ◌+◌, ◌-◌, ◌%◌, ◌<◌, ◌≤◌, length}
use Rattle.std.proofs.Common.{sym, ap, ◌∙◌, arith, mod-eq_of_lt}
use Rattle.std.proofs.Math.Option.{some, some-injective}
use Rattle.std.proofs.Math.Decide.{dec_lt}
use Rattle.std.proofs.Math.Nat.{mod-eq-sub-mod}
use Rattle.std.proofs.Math.ListN.{get_elem?}
use Rattle.words.specs.Runs.{SameLetter, HasPeriod, Run}
use Rattle.words.specs.Laws.SpanLyndon.{letters}

-- p is a period of the span from s to e, by positions.
abbrev pub SpanPeriod {ℓ} : {A : Type ℓ} → (ℕ → A) → ℕ → ℕ → ℕ → Type ℓ
SpanPeriod x s e p = (t : ℕ) → s ≤ t → t + p < e → x t ≡ x (t + p)

-- The span from s to e is a run of smallest period p in a text of n letters, by positions.
pub record SpanRun {ℓ} {A : Type ℓ} (x : ℕ → A) (n s e p : ℕ) : Type ℓ where
  pub positive : 0 < p
  pub twice : s + (p + p) ≤ e
  pub inside : e ≤ n
  pub period : SpanPeriod x s e p
  pub smallest : (q : ℕ) → 0 < q → q < p → ¬ SpanPeriod x s e q
  pub no_left : (t : ℕ) → s ≡ suc t → ¬ (x t ≡ x (t + p))
  pub no_right : (t : ℕ) → e ≡ t + p → e < n → ¬ (x t ≡ x e)

-- The letters of a span that has period p are those of its first p, over and over.
pub period_copies {ℓ} : {A : Type ℓ} (x : ℕ → A) (s e p : ℕ) → 0 < p → SpanPeriod x s e p → (t : ℕ) → s + t < e → x (s + t % p) ≡ x (s + t)
period_copies x s e p q r t l = below (suc t) t (omega arith) l
  where
    below : (fuel t : ℕ) → t < fuel → s + t < e → x (s + t % p) ≡ x (s + t)
    below zero t f l = absurd (omega arith)
    below (suc fuel) t f l = go (dec_lt t p) (below fuel (t - p))
      where
        go : Dec (t < p) → (t - p < fuel → s + (t - p) < e → x (s + (t - p) % p) ≡ x (s + (t - p))) → x (s + t % p) ≡ x (s + t)
        go (yes m) rest = ap (λ (u : ℕ). x (s + u)) (mod-eq_of_lt m)
        go (no m) rest =
            let a : s + (t - p) + p ≡ s + t = omega (arith, m) in
            ap (λ (u : ℕ). x (s + u)) (mod-eq-sub-mod {n = t} {m = p} (omega (arith, m))) ∙ rest (omega (arith, m)) (omega (arith, m)) ∙
            r (s + (t - p)) (omega arith) (omega (arith, m)) ∙ ap x a

-- A letter equal to the one p places before it continues the period.
pub period_longer {ℓ} : {A : Type ℓ} (x : ℕ → A) (s e p i : ℕ) → SpanPeriod x s e p → i + p ≡ e → x i ≡ x e → SpanPeriod x s (suc e) p
period_longer x s e p i r q h t a b = at (dec_lt (t + p) e)
  where
    at : Dec (t + p < e) → x t ≡ x (t + p)
    at (yes l) = r t a l
    at (no l) =
        let u : t ≡ i = omega (arith, l) in
        let v : e ≡ t + p = omega (arith, l) in
        ap x u ∙ h ∙ ap x v

pub get_elem?_letter {ℓ} : {A : Type ℓ} (z : A) (x : List A) (i : ℕ) → i < length x → get_elem? x i ≡ some (letters z x i)
get_elem?_letter z [] i h = absurd (omega arith)
get_elem?_letter z (a ∷ x) zero h = refl
get_elem?_letter z (a ∷ x) (suc i) h = get_elem?_letter z x i (omega arith)

module _ {ℓ} {A : Type ℓ} (z : A) (x : List A) where
  pub same_letters : (i k : ℕ) → i < length x → k < length x → SameLetter x i k → letters z x i ≡ letters z x k
  same_letters i k h l e =
      some-injective (letters z x i) (letters z x k) (sym (get_elem?_letter z x i h) ∙ e ∙ get_elem?_letter z x k l)

  pub letters_same : (i k : ℕ) → i < length x → k < length x → letters z x i ≡ letters z x k → SameLetter x i k
  letters_same i k h l e = get_elem?_letter z x i h ∙ ap some e ∙ sym (get_elem?_letter z x k l)

  pub period_span : (s e p : ℕ) → e ≤ length x → HasPeriod x s e p → SpanPeriod (letters z x) s e p
  period_span s e p l h t a b = same_letters t (t + p) (omega arith) (omega arith) (h t a b)

  pub span_period : (s e p : ℕ) → e ≤ length x → SpanPeriod (letters z x) s e p → HasPeriod x s e p
  span_period s e p l h t a b = letters_same t (t + p) (omega arith) (omega arith) (h t a b)

  -- A run is one by positions.
  pub run_span : (s e p : ℕ) → Run x s e p → SpanRun (letters z x) (length x) s e p
  run_span s e p r =
      record {
        positive = r.positive;
        twice = r.twice;
        inside = r.inside;
        period = period_span s e p r.inside r.period;
        smallest = λ q a b h. r.smallest q a b (span_period s e q r.inside h);
        no_left = λ t a h. r.no_left t a (letters_same t (t + p) (omega arith) (omega arith) h);
        no_right = λ t a b h. r.no_right t a b (letters_same t e (omega arith) b h);
      }

  -- What is a run by positions is a run.
  pub span_run : (s e p : ℕ) → SpanRun (letters z x) (length x) s e p → Run x s e p
  span_run s e p r =
      record {
        positive = r.positive;
        twice = r.twice;
        inside = r.inside;
        period = span_period s e p r.inside r.period;
        smallest = λ q a b h. r.smallest q a b (period_span s e q r.inside h);
        no_left = λ t a h. r.no_left t a (same_letters t (t + p) (omega arith) (omega arith) h);
        no_right = λ t a b h. r.no_right t a b (same_letters t e (omega arith) b h);
      }
