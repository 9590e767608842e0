-- Runs depend on nothing but which letters are equal: a one-to-one renaming of letters keeps the run list.
-- Assumes nothing.
use Rattle.std.specs.Prelude.{◌≡◌, ◌↔◌, List, map, ℕ}
use Rattle.words.specs.Runs.{Run, Entry, IsRunList}
use Rattle.words.specs.Laws.RunRenaming.{SameEqualities, same_equalities_sym, run_carried, renaming_same}

-- Texts with the same equalities have the same runs.
pub run_same {ℓ ℓ'} : {A : Type ℓ} {B : Type ℓ'} {x : List A} {y : List B} {s e p : ℕ} → SameEqualities x y → Run x s e p ↔ Run y s e p
run_same w = (run_carried w, run_carried (same_equalities_sym w))

pub run_list_carried {ℓ ℓ'} : {A : Type ℓ} {B : Type ℓ'} {x : List A} {y : List B} {rs : List Entry} → SameEqualities x y → IsRunList x rs → IsRunList y rs
run_list_carried w l =
    record {
      sound = λ r m. run_carried w (l.sound r m);
      complete = λ r h. l.complete r (run_carried (same_equalities_sym w) h);
      sorted = l.sorted;
    }

-- Texts with the same equalities have the same run list.
pub run_list_same {ℓ ℓ'} : {A : Type ℓ} {B : Type ℓ'} {x : List A} {y : List B} {rs : List Entry} → SameEqualities x y → IsRunList x rs ↔ IsRunList y rs
run_list_same w = (run_list_carried w, run_list_carried (same_equalities_sym w))

-- A renaming that keeps different letters different keeps the run list.
pub run_list_renamed {ℓ ℓ'} :
    {A : Type ℓ} {B : Type ℓ'} (f : A → B) → ((a b : A) → f a ≡ f b → a ≡ b) → (x : List A) (rs : List Entry)
    → IsRunList x rs ↔ IsRunList (map f x) rs
run_list_renamed f inj x rs = run_list_same (renaming_same f inj x)
