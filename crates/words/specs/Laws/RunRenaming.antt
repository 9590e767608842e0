-- Runs depend on nothing but which letters are equal: a one-to-one renaming of letters keeps them. That it keeps the run list:
-- `proofs/Laws/RunRenaming`.
-- Assumes nothing.
use Rattle.std.specs.Prelude.{◌≡◌, refl, ◌↔◌, List, [], ◌∷◌, map, ℕ, zero, suc, ◌+◌, ◌<◌, ◌≤◌, length}
use Rattle.std.proofs.Common.{sym, ap, ◌∙◌, arith}
use Rattle.std.proofs.Math.Option
use Rattle.std.proofs.Math.Option.{Option, none, some, some-injective, none-ne-some, some-ne-none}
use Rattle.std.proofs.Math.ListN.{get_elem?}
use Rattle.std.proofs.lemmas.List.{length-map}
use Rattle.words.specs.Runs.{SameLetter, HasPeriod, Run}

-- Texts of one length with equal letters at the same pairs of positions.
pub record SameEqualities {ℓ ℓ'} {A : Type ℓ} {B : Type ℓ'} (x : List A) (y : List B) : Type (ℓ ⊔ ℓ') where
  pub size : length x ≡ length y
  pub letters : (i k : ℕ) → i < length x → k < length x → SameLetter x i k ↔ SameLetter y i k

pub same_equalities_sym {ℓ ℓ'} : {A : Type ℓ} {B : Type ℓ'} {x : List A} {y : List B} → SameEqualities x y → SameEqualities y x
same_equalities_sym e =
    record {
      size = sym e.size;
      letters = λ i k h l.
          let both = e.letters i k (omega (arith, e.size)) (omega (arith, e.size)) in
          (both.1, both.0);
    }

pub period_carried {ℓ ℓ'} :
    {A : Type ℓ} {B : Type ℓ'} {x : List A} {y : List B} → SameEqualities x y → (s e p : ℕ) → e ≤ length x → HasPeriod x s e p → HasPeriod y s e p
period_carried w s e p l h i a b = (w.letters i (i + p) (omega arith) (omega arith)).0 (h i a b)

pub run_carried {ℓ ℓ'} : {A : Type ℓ} {B : Type ℓ'} {x : List A} {y : List B} {s e p : ℕ} → SameEqualities x y → Run x s e p → Run y s e p
run_carried {x = x} {y = y} {s = s} {e = e} {p = p} w r =
    record {
      positive = r.positive;
      twice = r.twice;
      inside = omega (arith, w.size);
      period = period_carried w s e p r.inside r.period;
      smallest = λ q a b h. r.smallest q a b (period_carried (same_equalities_sym w) s e q (omega (arith, w.size)) h);
      no_left = λ i a h. r.no_left i a ((w.letters i (i + p) (omega arith) (omega arith)).1 h);
      no_right = λ i a b h. r.no_right i a (omega (arith, w.size)) ((w.letters i e (omega (arith, w.size)) (omega (arith, w.size))).1 h);
    }

pub get_elem?_map {ℓ ℓ'} : {A : Type ℓ} {B : Type ℓ'} (f : A → B) (x : List A) (i : ℕ) → get_elem? (map f x) i ≡ Option.map f (get_elem? x i)
get_elem?_map f [] i = refl
get_elem?_map f (a ∷ x) zero = refl
get_elem?_map f (a ∷ x) (suc i) = get_elem?_map f x i

pub option_map_injective {ℓ ℓ'} :
    {A : Type ℓ} {B : Type ℓ'} (f : A → B) → ((a b : A) → f a ≡ f b → a ≡ b) → (o q : Option A) → Option.map f o ≡ Option.map f q → o ≡ q
option_map_injective f inj none none e = refl
option_map_injective f inj none (some b) e = absurd (none-ne-some (f b) e)
option_map_injective f inj (some a) none e = absurd (some-ne-none (f a) e)
option_map_injective f inj (some a) (some b) e = ap some (inj a b (some-injective (f a) (f b) e))

-- A renaming that keeps different letters different keeps the equalities.
pub renaming_same {ℓ ℓ'} :
    {A : Type ℓ} {B : Type ℓ'} (f : A → B) → ((a b : A) → f a ≡ f b → a ≡ b) → (x : List A) → SameEqualities x (map f x)
renaming_same {A = A} f inj x =
    record {
      size = sym (length-map x f);
      letters = λ i k h l. (
        λ e. get_elem?_map f x i ∙ ap (Option.map f) e ∙ sym (get_elem?_map f x k),
        λ e. option_map_injective f inj (get_elem? x i) (get_elem? x k) (sym (get_elem?_map f x i) ∙ e ∙ get_elem?_map f x k),
      );
    }
