-- Where it is decided which letters of a text are equal, they may be named by numbers, each by the first place where it stands; that it is decided
-- cannot be refuted. So a text has a run list: `proofs/Laws/RunExistence`.
-- Assumes nothing.
use Rattle.std.specs.Prelude.{◌≡◌, refl, Bool, List, ℕ, ◌<◌, length, get_or}
use Rattle.std.proofs.Common.{sym, ap, ◌∙◌, arith, zero-add}
use Rattle.std.proofs.Math.Decide.{dec_lt}
use Rattle.std.proofs.Math.ListN.{get_elem?}
use Rattle.words.specs.Runs.{SameLetter}
use Rattle.words.specs.Tabulate.{tabulate}
use Rattle.words.specs.Compute.Search.{least_from, LeastFrom, least_from_holds}
use Rattle.words.specs.Laws.Numbers.{least_unique}
use Rattle.words.specs.Laws.Tabulate.{length-tabulate, get_or-tabulate}
use Rattle.words.specs.Laws.Compared.{all_irrefutable}
use Rattle.words.specs.Laws.Periods.{same_letters, letters_same}
use Rattle.words.specs.Laws.RunRenaming.{SameEqualities}
use Rattle.words.specs.Laws.Existence.{answered, answered_holds}

module _ {ℓ} {A : Type ℓ} (x : List A) (decided : (i j : ℕ) → i < length x → j < length x → Dec (SameLetter x i j)) where
  -- Positions of the text with one letter.
  abbrev SamePlaces : ℕ → ℕ → Type ℓ
  SamePlaces i j = (i < length x) × (j < length x) × SameLetter x i j

  same_places : (i j : ℕ) → Dec (i < length x) → Dec (j < length x) → Dec (SamePlaces i j)
  same_places i j (no n) d = no (λ p. n p.0)
  same_places i j (yes h) (no n) = no (λ p. n p.1)
  same_places i j (yes h) (yes l) = go (decided i j h l)
    where
      go : Dec (SameLetter x i j) → Dec (SamePlaces i j)
      go (yes e) = yes (h, l, e)
      go (no n) = no (λ p. n p.2)

  abbrev is_same_place : ℕ → ℕ → Bool
  is_same_place i j = answered (same_places j i (dec_lt j (length x)) (dec_lt i (length x)))

  -- The first place with the letter at i.
  abbrev name : ℕ → ℕ
  name i = least_from (is_same_place i) 0 i

  name_first : (i : ℕ) → i < length x → LeastFrom (is_same_place i) 0 (name i)
  name_first i h =
      least_from_holds (is_same_place i) 0 i i (omega arith) (omega arith)
      ((answered_holds (same_places i i (dec_lt i (length x)) (dec_lt i (length x)))).1 (h, h, refl))

  name_same : (i : ℕ) → i < length x → SamePlaces (name i) i
  name_same i h =
      (answered_holds (same_places (name i) i (dec_lt (name i) (length x)) (dec_lt i (length x)))).0 (name_first i h).passes

  name_least : (i : ℕ) → i < length x → (k : ℕ) → k < name i → ¬ SamePlaces k i
  name_least i h k l p =
      (name_first i h).least k (omega arith) l ((answered_holds (same_places k i (dec_lt k (length x)) (dec_lt i (length x)))).1 p)

  -- The names of the letters.
  abbrev names : List ℕ
  names = tabulate name 0 (length x)

  names_size : length names ≡ length x
  names_size = length-tabulate name 0 (length x)

  names_entry : (i : ℕ) → i < length x → get_or names i 0 ≡ name i
  names_entry i h = get_or-tabulate name 0 (length x) i h ∙ ap name (zero-add i)

  -- Equal letters have one name.
  same_name : (i k : ℕ) → i < length x → k < length x → SameLetter x i k → name i ≡ name k
  same_name i k h l e =
      least_unique (λ j. SamePlaces j i) (name_same i h) (name_least i h) (here (name_same k l))
      (λ j m p. name_least k l j m (p.0, l, p.2 ∙ e))
    where
      here : SamePlaces (name k) k → SamePlaces (name k) i
      here p = (p.0, h, p.2 ∙ sym e)

  -- Letters of one name are equal.
  one_name : (i k : ℕ) → i < length x → k < length x → name i ≡ name k → SameLetter x i k
  one_name i k h l e = sym (name_same i h).2 ∙ ap (λ (j : ℕ). get_elem? x j) e ∙ (name_same k l).2

  -- The names are equal where the letters are.
  names_same : SameEqualities x names
  names_same =
      record {
        size = sym names_size;
        letters =
            λ i k h l.
            let a : i < length names = omega (arith, names_size) in
            let b : k < length names = omega (arith, names_size) in (
              λ e. letters_same 0 names i k a b (names_entry i h ∙ same_name i k h l e ∙ sym (names_entry k l)),
              λ e. one_name i k h l (sym (names_entry i h) ∙ same_letters 0 names i k a b e ∙ names_entry k l),
            );
      }

  -- Where it is decided which letters of a text are equal, numbers may stand for them.
  pub letters_numbered : (y : List ℕ) × SameEqualities x y
  letters_numbered = (names, names_same)

-- That it is decided cannot be refuted.
pub equalities_irrefutable {ℓ} : {A : Type ℓ} (x : List A) → ¬ ¬ ((i j : ℕ) → i < length x → j < length x → Dec (SameLetter x i j))
equalities_irrefutable x never =
    all_irrefutable (λ i. (j : ℕ) → j < length x → Dec (SameLetter x i j)) (length x)
    (λ i h. all_irrefutable (λ j. Dec (SameLetter x i j)) (length x) (λ j l undecided. undecided (no (λ e. undecided (yes e)))))
    (λ q. never (λ i j h l. q i h j l))
