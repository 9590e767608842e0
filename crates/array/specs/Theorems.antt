-- What the contracts of the calls say by the published definitions: texts of 1 to 1,048,576 letters are accepted, and what is then in the
-- buffers. A text is a list of numbers, so this is one theorem for bytes and for 32-bit letters.
-- Assumes nothing.
use Rattle.std.specs.Prelude.{◌≡◌, List, [], ◌∷◌, ℕ, ◌*◌, ◌<◌, ◌≤◌, length, take, drop}
use Rattle.std.proofs.Common.{ap, ◌∙◌, arith, length-append, take_at, drop_at}
use Rattle.words.specs.Letters.{rising, falling, order_of}
use Rattle.words.specs.Decided.{decided_rising, decided_falling, decided_order}
use Rattle.words.specs.Equality.{decided_number_equality}
use Rattle.words.specs.LyndonArray.{IsLyndonArray}
use Rattle.words.specs.Runs.{IsRunList, numbers}
use Rattle.words.specs.Compute.LyndonArray.{array_of, array_of_holds}
use Rattle.words.proofs.RunsTheorem.{run_list_shorter}
use Rattle.words.proofs.Laws.RunSearch.{runs_of_holds}
use Rattle.words.specs.Laws.Runs.{numbers_length}
use Rattle.answer.specs.declared.Reason.TheVariants.{ShortOutput}
use Rattle.answer.specs.Answers.{accepted_with, refused_for}
use Rattle.answer.specs.Limits.{run_list_length, work_length, Sized}
use Rattle.answer.specs.AfterCall.{content_after}
use Rattle.answer.specs.AfterLaws.{written_first, written_rest}
use Rattle.checks.specs.CheckLaws.{array_passes, ordered_text_passes, output_short, runs_passes}
use Rattle.array.specs.Calls.{array_answer, run_list, run_numbers, both_arrays, runs_answer}

-- What `lyndon_array`, of either width, leaves in its buffer, by its contract.
abbrev pub array_after : List ℕ → ℕ → List ℕ → List ℕ
array_after x order out = content_after (array_answer (length x) order (length out)) (array_of (decided_order order) x) out

-- `lyndon_array`, in order 0 or 1, with a buffer that is long enough.
module _ (x : List ℕ) (sized : Sized (length x)) (order : ℕ) (named : order ≤ 1) (out : List ℕ) (room : length x ≤ length out) where
  -- No text is refused; the count is n.
  pub array_accepts : array_answer (length x) order (length out) ≡ accepted_with (length x)
  array_accepts = ordered_text_passes (length x) sized _ order (length out) named room

  is_array : IsLyndonArray (order_of order) x (array_of (decided_order order) x)
  is_array = array_of_holds (decided_order order) x

  -- The first n places hold the Lyndon array of the text.
  pub array_written : IsLyndonArray (order_of order) x (take (length x) (array_after x order out))
  array_written =
      rw (written_first (array_answer (length x) order (length out)) (length x) (length x) (array_of (decided_order order) x) out array_accepts is_array.size)
      is_array

  -- The others hold what they held before.
  pub array_rest : drop (length x) (array_after x order out) ≡ drop (length x) out
  array_rest =
      written_rest (array_answer (length x) order (length out)) (length x) (length x) (array_of (decided_order order) x) out array_accepts is_array.size

-- What `runs` leaves in its list, by its contract.
abbrev pub list_after : List ℕ → List ℕ → List ℕ → List ℕ
list_after x work list = content_after (runs_answer x (length work) (length list)) (run_numbers x) list

-- And in its work buffer.
abbrev pub work_after : List ℕ → List ℕ → List ℕ → List ℕ
work_after x work list = content_after (runs_answer x (length work) (length list)) (both_arrays x) work

-- `runs`, with a list and a work buffer that are long enough.
module _
    (x : List ℕ)
    (sized : Sized (length x))
    (work list : List ℕ)
    (list_room : run_list_length (length x) ≤ length list)
    (work_room : work_length (length x) ≤ length work)
  where
    -- No text is refused; the count is the number of runs.
    pub runs_accepts : runs_answer x (length work) (length list) ≡ accepted_with (length (run_list x))
    runs_accepts = runs_passes (length x) sized _ (length list) (length work) list_room work_room

    -- That list holds every run of the text once, and nothing else, by start and then by last position.
    pub runs_listed : IsRunList x (run_list x)
    runs_listed = runs_of_holds decided_number_equality x

    -- Its numbers stand in the first places of the list, three for each run.
    pub runs_written : take (3 * length (run_list x)) (list_after x work list) ≡ numbers (run_list x)
    runs_written =
        written_first (runs_answer x (length work) (length list)) (length (run_list x)) (3 * length (run_list x)) (run_numbers x) list runs_accepts
        (numbers_length (run_list x))

    -- The other places hold what they held before.
    pub runs_rest : drop (3 * length (run_list x)) (list_after x work list) ≡ drop (3 * length (run_list x)) list
    runs_rest =
        written_rest (runs_answer x (length work) (length list)) (length (run_list x)) (3 * length (run_list x)) (run_numbers x) list runs_accepts
        (numbers_length (run_list x))

    both_length : length (both_arrays x) ≡ work_length (length x)
    both_length =
        omega (
          arith,
          length-append (array_of decided_rising x) (array_of decided_falling x),
          (array_of_holds decided_rising x).size,
          (array_of_holds decided_falling x).size,
        )

    -- The first 2 n places of the work buffer.
    both_written : take (work_length (length x)) (work_after x work list) ≡ both_arrays x
    both_written =
        written_first (runs_answer x (length work) (length list)) (length (run_list x)) (work_length (length x)) (both_arrays x) work runs_accepts both_length

    -- Afterwards the first n numbers of the work buffer are the rising array, and the next n the falling one.
    pub work_rising : IsLyndonArray rising x (take (length x) (take (work_length (length x)) (work_after x work list)))
    work_rising =
        let h = array_of_holds decided_rising x in
        rw (both_written, take_at (array_of decided_rising x) (array_of decided_falling x) (length x) h.size) h

    pub work_falling : IsLyndonArray falling x (drop (length x) (take (work_length (length x)) (work_after x work list)))
    work_falling =
        let h = array_of_holds decided_rising x in
        rw (both_written, drop_at (array_of decided_rising x) (array_of decided_falling x) (length x) h.size) (array_of_holds decided_falling x)

    -- The other places hold what they held before.
    pub work_rest : drop (work_length (length x)) (work_after x work list) ≡ drop (work_length (length x)) work
    work_rest =
        written_rest (runs_answer x (length work) (length list)) (length (run_list x)) (work_length (length x)) (both_arrays x) work runs_accepts both_length

-- A list of fewer than 3 × (n − 1) numbers is refused, whatever the work buffer (document 02, E4).
pub runs_short_list : (x : List ℕ) → Sized (length x) → (work list : List ℕ) → length list < run_list_length (length x) →
    runs_answer x (length work) (length list) ≡ refused_for ShortOutput 0
runs_short_list x sized work list short = array_passes (length x) sized _ ∙ output_short _ (run_list_length (length x)) (length list) short

-- The count of runs is below n.
pub runs_bounded : (x : List ℕ) → 0 < length x → length (run_list x) < length x
runs_bounded x some = run_list_shorter x some (run_list x) (runs_of_holds decided_number_equality x)

-- One letter needs no list, and has no run.
pub runs_of_one_letter : (a : ℕ) (work : List ℕ) → work_length 1 ≤ length work → runs_answer (a ∷ []) (length work) 0 ≡ accepted_with 0
runs_of_one_letter a work room =
    let one : Sized 1 = record { some = omega arith; short = omega arith } in
    let none : length (run_list (a ∷ [])) ≡ 0 = omega (arith, runs_bounded (a ∷ []) (omega arith)) in
    runs_passes 1 one _ 0 (length work) (omega arith) room ∙ ap accepted_with none
