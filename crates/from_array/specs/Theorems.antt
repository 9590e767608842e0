-- What the contracts of the calls say of texts, over letters of any kind under any total order: which arrays are refused, and what is
-- written for the others. Every theorem holds for letters and orders of every level.
-- Assumes nothing.
use Rattle.std.specs.Prelude.{◌≡◌, refl, ◌↔◌, List, ℕ, ◌≤◌, length, take, drop}
use Rattle.std.proofs.Common.{sym, ap, subst, ◌∙◌, arith}
use Rattle.std.proofs.Math.Logic.Iff
use Rattle.words.specs.Letters.{Letters, rising}
use Rattle.words.specs.LyndonArray.{IsLyndonArray}
use Rattle.words.specs.RightForest.{IsRightForest}
use Rattle.words.specs.ValidArray.{Fault, zero_entry, long_entry, crossing, text_for}
use Rattle.words.specs.Permutation.{EachOnce}
use Rattle.words.specs.ArrayForest.{forest_first, forest_past}
use Rattle.words.specs.Compute.ValidArray.{Verdict, fits, fault, check_array}
use Rattle.words.specs.Laws.ValidText.{length-text_for}
use Rattle.words.specs.Laws.ArrayForest.{length-forest_first, length-forest_past}
use Rattle.words.specs.ArrayTheorems.{TextWith, Faulty, valid_exactly, passed_exactly, refused_exactly, text_for_has_array, text_for_each_once, forest_of_every_text}
use Rattle.answer.specs.declared.Answer.{Answer}
use Rattle.answer.specs.Answers.{accepted_with, number}
use Rattle.answer.specs.AfterCall.{content_after}
use Rattle.answer.specs.Limits.{Sized}
use Rattle.answer.specs.AfterLaws.{written_first, written_rest}
use Rattle.checks.specs.CheckLaws.{text_passes, forest_passes}
use Rattle.valid_array.specs.Answers.{verdict_answer, array_checked}
use Rattle.from_array.specs.Answers.{reconstruct_answer, right_forest_answer}

-- An answer that refuses the array: document 01's number 6, 7 or 8.
pub record RefusesArray (r : Answer) : Type 0 where
  pub from : 6 ≤ number r
  pub to : number r ≤ 8

refuses_faulty : (a : List ℕ) → RefusesArray (array_checked a) ↔ Faulty a
refuses_faulty a = (
  λ r. go (check_array a) refl r,
  λ f. subst (λ (v : Verdict). RefusesArray (verdict_answer (length a) v)) (sym f.found) (numbered f.kind f.position),
)
  where
    go : (v : Verdict) → check_array a ≡ v → RefusesArray (verdict_answer (length a) (check_array a)) → Faulty a
    go fits e r = absurd (accepts (subst (λ (v : Verdict). RefusesArray (verdict_answer (length a) v)) e r))
      where
        accepts : RefusesArray (accepted_with (length a)) → ⊥
        accepts q = omega (arith, q.from)
    go (fault f i) e r = record { kind = f; position = i; found = e }

    numbered : (f : Fault) (i : ℕ) → RefusesArray (verdict_answer (length a) (fault f i))
    numbered zero_entry i = record { from = omega arith; to = omega arith }
    numbered long_entry i = record { from = omega arith; to = omega arith }
    numbered crossing i = record { from = omega arith; to = omega arith }

accepts_passed : (a : List ℕ) → (array_checked a ≡ accepted_with (length a)) ↔ (check_array a ≡ fits)
accepts_passed a = (λ e. go (check_array a) refl e, ap (verdict_answer (length a)))
  where
    go : (v : Verdict) → check_array a ≡ v → verdict_answer (length a) (check_array a) ≡ accepted_with (length a) → check_array a ≡ fits
    go fits e h = e
    go (fault f i) e h = absurd (refused f (ap number (ap (verdict_answer (length a)) (sym e) ∙ h)))
      where
        refused : (f : Fault) → number (verdict_answer (length a) (fault f i)) ≡ number (accepted_with (length a)) → ⊥
        refused zero_entry q = omega (arith, q)
        refused long_entry q = omega (arith, q)
        refused crossing q = omega (arith, q)

-- What `reconstruct` leaves in its buffer, by its contract.
abbrev pub text_after : List ℕ → List ℕ → List ℕ
text_after a text = content_after (reconstruct_answer a (length text)) (text_for a) text

-- What `right_forest` leaves in its first buffer, by its contract.
abbrev pub right_first_after : List ℕ → List ℕ → List ℕ → List ℕ
right_first_after a first past = content_after (right_forest_answer a (length first) (length past)) (forest_first a) first

-- And in its second.
abbrev pub right_past_after : List ℕ → List ℕ → List ℕ → List ℕ
right_past_after a first past = content_after (right_forest_answer a (length first) (length past)) (forest_past a) past

-- `reconstruct`, with a text buffer that is long enough.
module _ (a : List ℕ) (sized : Sized (length a)) (text : List ℕ) (room : length a ≤ length text) where
  -- Its answer is then that of the entries and spans alone.
  pub reconstruct_checked : reconstruct_answer a (length text) ≡ array_checked a
  reconstruct_checked = text_passes (length a) sized _ (length text) room

  -- It refuses the array exactly when no text over any totally ordered letters has it.
  pub reconstruct_refuses_exactly {ℓ κ} : RefusesArray (reconstruct_answer a (length text)) ↔ (¬ TextWith {ℓ, κ} a)
  reconstruct_refuses_exactly = rw reconstruct_checked (Iff.trans (refuses_faulty a) (refused_exactly a))

  -- It accepts, with the count n, exactly when some text has the array.
  pub reconstruct_accepts_exactly {ℓ κ} : (reconstruct_answer a (length text) ≡ accepted_with (length a)) ↔ TextWith {ℓ, κ} a
  reconstruct_accepts_exactly = rw reconstruct_checked (Iff.trans (accepts_passed a) (passed_exactly a))

  module _ {ℓ κ} (t : TextWith {ℓ, κ} a) where
    -- Then the first n places hold the text that document 01 writes, and the others what they held before.
    pub written_text : (take (length a) (text_after a text) ≡ text_for a) × (drop (length a) (text_after a text) ≡ drop (length a) text)
    written_text =
        let yes = reconstruct_accepts_exactly.1 t in (
          written_first (reconstruct_answer a (length text)) (length a) (length a) (text_for a) text yes (length-text_for a),
          written_rest (reconstruct_answer a (length text)) (length a) (length a) (text_for a) text yes (length-text_for a),
        )

    -- That text has, in rising order, exactly that array.
    pub written_text_has_array : IsLyndonArray rising (take (length a) (text_after a text)) a
    written_text_has_array = rw written_text.0 (text_for_has_array a ((valid_exactly a).1 t))

    -- And each of the letters 0 to n − 1 once.
    pub written_text_each_once : EachOnce (length a) (take (length a) (text_after a text))
    written_text_each_once = rw written_text.0 (text_for_each_once a ((valid_exactly a).1 t))

-- `right_forest`, with buffers that are long enough.
module _ (a : List ℕ) (sized : Sized (length a)) (first past : List ℕ) (first_room : length a ≤ length first) (past_room : length a ≤ length past) where
  -- Its answer is then that of the entries and spans alone.
  pub right_forest_checked : right_forest_answer a (length first) (length past) ≡ array_checked a
  right_forest_checked = forest_passes (length a) sized _ (length first) (length past) first_room past_room

  -- It refuses the array exactly when no text over any totally ordered letters has it.
  pub right_forest_refuses_exactly {ℓ κ} : RefusesArray (right_forest_answer a (length first) (length past)) ↔ (¬ TextWith {ℓ, κ} a)
  right_forest_refuses_exactly = rw right_forest_checked (Iff.trans (refuses_faulty a) (refused_exactly a))

  -- Both calls give one answer, so they refuse alike.
  pub answer_alike : (text : List ℕ) → length a ≤ length text → reconstruct_answer a (length text) ≡ right_forest_answer a (length first) (length past)
  answer_alike text room = reconstruct_checked a sized text room ∙ sym right_forest_checked

  -- It accepts, with the count n, exactly when some text has the array.
  pub right_forest_accepts_exactly {ℓ κ} : (right_forest_answer a (length first) (length past) ≡ accepted_with (length a)) ↔ TextWith {ℓ, κ} a
  right_forest_accepts_exactly = rw right_forest_checked (Iff.trans (accepts_passed a) (passed_exactly a))

  -- Then both buffers hold in their first n places what is read off the array, and in the others what they held before.
  pub written_buffers {ℓ κ} : TextWith {ℓ, κ} a
      → (take (length a) (right_first_after a first past) ≡ forest_first a) × (take (length a) (right_past_after a first past) ≡ forest_past a) ×
      (drop (length a) (right_first_after a first past) ≡ drop (length a) first) × (drop (length a) (right_past_after a first past) ≡ drop (length a) past)
  written_buffers t =
      let r = right_forest_answer a (length first) (length past) in
      let yes = right_forest_accepts_exactly.1 t in (
        written_first r (length a) (length a) (forest_first a) first yes (length-forest_first a),
        written_first r (length a) (length a) (forest_past a) past yes (length-forest_past a),
        written_rest r (length a) (length a) (forest_first a) first yes (length-forest_first a),
        written_rest r (length a) (length a) (forest_past a) past yes (length-forest_past a),
      )

  -- That is the right forest of every text that has the array.
  pub written_forest {ℓ κ} : {A : Type ℓ} (O : Letters {ℓ, κ} A) (x : List A) → IsLyndonArray O x a
      → IsRightForest O x (take (length a) (right_first_after a first past)) (take (length a) (right_past_after a first past))
  written_forest {A = A} O x h =
      let w = written_buffers (record { Letter = A; order = O; text = x; has = h }) in
      rw (w.0, w.1) (forest_of_every_text O x a h)
