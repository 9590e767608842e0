-- What the tests by which runs are sought say.
-- Assumes nothing.
use Rattle.std.specs.Prelude.{◌≡◌, refl, ◌↔◌, Bool, true, false, not, ◌&&◌, ◌||◌, List, ℕ, zero, suc, ◌+◌, ◌-◌, ◌/◌, ◌<◌, ◌≤◌, length, T, leb}
use Rattle.std.proofs.Common.{ap, subst, arith, T_not, leb→le, le→leb}
use Rattle.std.proofs.Math.Option.{Option, none, some, some-injective, none-ne-some, some-ne-none}
use Rattle.std.proofs.Math.Decide.{ℕ_discrete}
use Rattle.std.proofs.Math.ListN.{get_elem?}
use Rattle.std.proofs.Math.Dec.{not_T}
use Rattle.words.specs.Equality.{DecidedEquality}
use Rattle.words.specs.Runs.{SameLetter, HasPeriod, Run}
use Rattle.words.specs.Compute.Search.{FirstFrom}
use Rattle.words.specs.Laws.Numbers.{least_unique}
use Rattle.words.specs.Compute.Runs.{all_from, equal_at, same_letter, has_period, stops_left, stops_right, period_kept}

pub all_from_holds : (f : ℕ → Bool) (i d : ℕ) → T (all_from f i d) ↔ ((k : ℕ) → i ≤ k → k < i + d → T (f k))
all_from_holds f i zero = (λ t k h l. absurd (omega arith), λ g. tt)
all_from_holds f i (suc d) = go (f i) refl (all_from_holds f (suc i) d)
  where
    go : (b : Bool) → f i ≡ b → T (all_from f (suc i) d) ↔ ((k : ℕ) → suc i ≤ k → k < suc i + d → T (f k))
        → T (elim b [ true ↦ all_from f (suc i) d | false ↦ false ]) ↔ ((k : ℕ) → i ≤ k → k < i + suc d → T (f k))
    go true e r = (λ t k h l. at t k h l (ℕ_discrete i k), λ g. r.1 (λ k h l. g k (omega arith) (omega arith)))
      where
        at : T (all_from f (suc i) d) → (k : ℕ) → i ≤ k → k < i + suc d → Dec (i ≡ k) → T (f k)
        at t k h l (yes z) = subst (λ (n : ℕ). T (f n)) z (rw e tt)
        at t k h l (no n) = r.0 t k (omega arith) (omega arith)
    go false e r = (λ t. absurd t, λ g. rw e at (g i (omega arith) (omega arith)))

pub equal_at_right {ℓ} : {A : Type ℓ} (E : DecidedEquality A) (o q : Option A) → T (equal_at E o q) ↔ (o ≡ q)
equal_at_right E none none = (λ t. refl, λ e. tt)
equal_at_right E none (some b) = (λ t. absurd t, none-ne-some b)
equal_at_right E (some a) none = (λ t. absurd t, some-ne-none a)
equal_at_right E (some a) (some b) = (λ t. ap some ((E.right a b).0 t), λ e. (E.right a b).1 (some-injective a b e))

pub and_holds : (a b : Bool) → T (a && b) ↔ (T a × T b)
and_holds true b = (λ t. (tt, t), λ h. h.1)
and_holds false b = (λ t. absurd t, λ h. absurd h.0)

pub or_holds : (a b : Bool) → T (a || b) ↔ (¬ T a → T b)
or_holds true b = (λ t h. absurd (h tt), λ h. tt)
or_holds false b = (λ t h. t, λ h. h (λ t. t))

-- What the answer of period_of says of the span from s to e.
abbrev pub Found {ℓ} : {A : Type ℓ} → List A → ℕ → ℕ → Option ℕ → Type ℓ
Found x s e none = (p : ℕ) → ¬ Run x s e p
Found x s e (some p) = Run x s e p

module _ {ℓ} {A : Type ℓ} (E : DecidedEquality A) (x : List A) where
  pub same_letter_holds : (i k : ℕ) → T (same_letter E x i k) ↔ SameLetter x i k
  same_letter_holds i k = equal_at_right E (get_elem? x i) (get_elem? x k)

  pub differs_right : (i k : ℕ) → T (not (same_letter E x i k)) ↔ (¬ SameLetter x i k)
  differs_right i k = (
    λ t h. T_not (same_letter E x i k) t ((same_letter_holds i k).1 h),
    λ n. not_T (same_letter E x i k) (λ t. n ((same_letter_holds i k).0 t)),
  )

  pub has_period_holds : (s e p : ℕ) → T (has_period E x s e p) ↔ HasPeriod x s e p
  has_period_holds s e p =
      let all = all_from_holds (λ i. same_letter E x i (i + p)) s (e - (s + p)) in (
        λ t i h l. (same_letter_holds i (i + p)).0 (all.0 t i h (omega arith)),
        λ g. all.1 (λ i h l. (same_letter_holds i (i + p)).1 (g i h (omega arith))),
      )

  pub stops_left_holds : (s p : ℕ) → T (stops_left E x s p) ↔ ((i : ℕ) → s ≡ suc i → ¬ SameLetter x i (i + p))
  stops_left_holds zero p = (λ t i e. absurd (omega arith), λ g. tt)
  stops_left_holds (suc j) p = (
    λ t i e h.
        let z : i ≡ j = omega arith in
        (differs_right j (j + p)).0 t (rw z at h),
    λ g. (differs_right j (j + p)).1 (g j refl),
  )

  pub stops_right_holds :
      (e p : ℕ) → p ≤ e → T (stops_right E x e p) ↔ ((i : ℕ) → e ≡ i + p → e < length x → ¬ SameLetter x i e)
  stops_right_holds e p l =
      let either = or_holds (leb (length x) e) (not (same_letter E x (e - p) e)) in (
        λ t i z h s.
            let y : i ≡ e - p = omega arith in
            (differs_right (e - p) e).0 (either.0 t (λ u. omega (arith, leb→le (length x) e u))) (rw y at s),
        λ g. either.1 (λ n. (differs_right (e - p) e).1 (g (e - p) (omega arith) (below n))),
      )
    where
      below : ¬ T (leb (length x) e) → e < length x
      below n =
          let m : ¬ (length x ≤ e) = λ h. n (le→leb (length x) e h) in
          omega arith

  pub period_kept_right :
      (s e : ℕ) → e ≤ length x → (o : Option ℕ) → FirstFrom (has_period E x s e) 1 ((e - s) / 2) o
      → Found x s e (period_kept E x s e o)
  period_kept_right s e l none f = λ p r. f p r.positive (omega arith) ((has_period_holds s e p).1 r.period)
  period_kept_right s e l (some p) f = go (stops_left E x s p && stops_right E x e p) refl
    where
      stops : T (stops_left E x s p && stops_right E x e p) ↔ (T (stops_left E x s p) × T (stops_right E x e p))
      stops = and_holds (stops_left E x s p) (stops_right E x e p)

      smaller : (q : ℕ) → 0 < q → q < p → ¬ HasPeriod x s e q
      smaller q h k g = f.1.least q h k ((has_period_holds s e q).1 g)

      period : HasPeriod x s e p
      period = (has_period_holds s e p).0 f.1.passes

      go : (b : Bool) → (stops_left E x s p && stops_right E x e p) ≡ b → Found x s e (elim b [ true ↦ some p | false ↦ none ])
      go true z =
          let both : T (stops_left E x s p) × T (stops_right E x e p) = stops.0 (rw z tt) in
          record {
            positive = f.1.reached;
            twice = omega (arith, f.0);
            inside = l;
            period = period;
            smallest = smaller;
            no_left = (stops_left_holds s p).0 both.0;
            no_right = (stops_right_holds e p (omega arith)).0 both.1;
          }
      go false z = λ q r.
          let same : q ≡ p =
          least_unique (λ k. (0 < k) × HasPeriod x s e k) (r.positive, r.period) (λ k l h. r.smallest k h.0 l h.1) (f.1.reached, period)
          (λ k l h. smaller k h.0 l h.1) in
          let run : Run x s e p = rw same at r in
          subst T z (stops.1 ((stops_left_holds s p).1 run.no_left, (stops_right_holds e p (omega arith)).1 run.no_right))
