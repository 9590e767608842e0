-- What the contracts of the ranked calls say (document 02, E1): orders 0 and 1 are the old call, every answer by a table is that of order 0 for the row
-- of ranks, and texts of 1 to 1,048,576 letters are accepted.
-- Assumes nothing.
use Rattle.std.specs.Prelude.{◌≡◌, refl, true, List, [], ◌∷◌, ℕ, zero, suc, ◌*◌, ◌<◌, ◌≤◌, length, get_or, take, drop}
use Rattle.std.proofs.Common.{sym, ap, ap₂, ◌∙◌, arith}
use Rattle.words.specs.Letters.{rising, falling, order_of}
use Rattle.words.specs.Decided.{decided_order}
use Rattle.words.specs.LyndonArray.{IsLyndonArray}
use Rattle.words.specs.Runs.{IsRunList, numbers}
use Rattle.words.specs.Compute.LyndonArray.{array_of, array_of_holds}
use Rattle.answer.specs.declared.Reason.TheVariants.{ShortOutput}
use Rattle.answer.specs.declared.Answer.{Answer}
use Rattle.answer.specs.Answers.{accepted_with, refused_for}
use Rattle.answer.specs.Limits.{Sized, ranked_order, table_length, run_list_length, work_length}
use Rattle.answer.specs.AfterCall.{content_after}
use Rattle.answer.specs.AfterLaws.{written_first, written_rest}
use Rattle.checks.specs.Checks.{output_checked, runs_checked, uses_table}
use Rattle.checks.specs.CheckLaws.{text_passes, table_unused, ordered_text_as, ranked_text_as, ranked_runs_as}
use Rattle.letters.specs.Ranks.{rank_by, rank_row, row_in, direction_of}
use Rattle.letters.specs.RankLaws.{row_length, row_in_length, row_checked, identity_row}
use Rattle.array.specs.Calls.{array_answer, array_ranked_answer, array_in, run_list, run_numbers, both_arrays, runs_answer, runs_ranked_answer}
use Rattle.array.specs.Theorems.{array_after, list_after, work_after, runs_accepts, runs_listed, runs_short_list, runs_bounded, runs_of_one_letter}
use Rattle.array.specs.Theorems.{runs_written, runs_rest, work_rising, work_falling, work_rest}

-- What `lyndon_array_ranked` leaves in its buffer, by its contract.
abbrev pub array_ranked_after : ℕ → List ℕ → List ℕ → List ℕ → List ℕ
array_ranked_after order table x out = content_after (array_ranked_answer (length x) order (length table) (length out)) (array_in order table x) out

pub unranked_array : (order : ℕ) → order ≤ 1 → (table x : List ℕ) → array_in order table x ≡ array_of (decided_order order) x
unranked_array zero l table x = refl
unranked_array (suc zero) l table x = refl
unranked_array (suc (suc order)) l table x = absurd (omega arith)

-- In orders 0 and 1 `lyndon_array_ranked` is `lyndon_array`, whatever the table: answer and buffer.
pub array_unranked : (order : ℕ) → order ≤ 1 → (table x out : List ℕ) →
    (array_ranked_answer (length x) order (length table) (length out) ≡ array_answer (length x) order (length out)) ×
    (array_ranked_after order table x out ≡ array_after x order out)
array_unranked order named table x out =
    let answer : array_ranked_answer (length x) order (length table) (length out) ≡ array_answer (length x) order (length out) =
    ranked_text_as (length x) _ order (length table) (omega arith) (λ t. absurd (table_unused order named t)) (length out) ∙
    sym (ordered_text_as (length x) _ order (length out) named) in
    (answer, ap₂ (λ (r : Answer) (a : List ℕ). content_after r a out) answer (unranked_array order named table x))

-- All answers by a table are those in order 0 for the row of ranks: over every table of 256 entries, every text, also one that is refused,
-- and every buffer. In order 0 the table t is not looked at.
module _ (table : List ℕ) (whole : length table ≡ table_length) (t x out : List ℕ) where
  pub array_by_rank :
      (array_ranked_answer (length x) 2 (length table) (length out) ≡ array_ranked_answer (length (rank_row table x)) 0 (length t) (length out)) ×
      (array_ranked_after 2 table x out ≡ array_ranked_after 0 t (rank_row table x) out)
  array_by_rank =
      let answer = row_checked table t x whole (λ n. output_checked n (length out) (accepted_with n)) in
      (answer, ap (λ (r : Answer). content_after r (array_in 2 table x) out) answer)

  -- A table that gives each byte its own number gives the answers of order 0.
  pub array_by_own_rank : ((a : ℕ) → a < table_length → get_or table a 0 ≡ a) → ((i : ℕ) → i < length x → get_or x i 0 < table_length) →
      (array_ranked_answer (length x) 2 (length table) (length out) ≡ array_ranked_answer (length x) 0 (length t) (length out)) ×
      (array_ranked_after 2 table x out ≡ array_ranked_after 0 t x out)
  array_by_own_rank own bytes =
      let row : rank_row table x ≡ x = identity_row table x own bytes in (
        array_by_rank.0 ∙ ap (λ (y : List ℕ). array_ranked_answer (length y) 0 (length t) (length out)) row,
        array_by_rank.1 ∙ ap (λ (y : List ℕ). array_ranked_after 0 t y out) row,
      )

-- `lyndon_array_ranked`, in order 0, 1 or 2, with a table that fits where it is used and a buffer that is long enough.
module _ (x : List ℕ) (sized : Sized (length x)) (order : ℕ) (named : order ≤ ranked_order) (table : List ℕ)
    (fits : uses_table order ≡ true → length table ≡ table_length) (out : List ℕ) (room : length x ≤ length out) where
  -- No text is refused; the count is n.
  pub array_ranked_accepts : array_ranked_answer (length x) order (length table) (length out) ≡ accepted_with (length x)
  array_ranked_accepts =
      ranked_text_as (length x) _ order (length table) named fits (length out) ∙ text_passes (length x) sized _ (length out) room

  is_array : IsLyndonArray (order_of (direction_of order)) (row_in order table x) (array_in order table x)
  is_array = array_of_holds (decided_order (direction_of order)) (row_in order table x)

  -- The first n places hold the Lyndon array of what is compared: of the row of ranks in order 2, else of the text.
  pub array_ranked_written : IsLyndonArray (order_of (direction_of order)) (row_in order table x) (take (length x) (array_ranked_after order table x out))
  array_ranked_written =
      rw
      (written_first (array_ranked_answer (length x) order (length table) (length out)) (length x) (length x) (array_in order table x) out
      array_ranked_accepts (is_array.size ∙ row_in_length order table x))
      is_array

  -- The others hold what they held before.
  pub array_ranked_rest : drop (length x) (array_ranked_after order table x out) ≡ drop (length x) out
  array_ranked_rest =
      written_rest (array_ranked_answer (length x) order (length table) (length out)) (length x) (length x) (array_in order table x) out
      array_ranked_accepts (is_array.size ∙ row_in_length order table x)

-- What `runs_ranked` leaves in its list, by its contract.
abbrev pub list_ranked_after : List ℕ → List ℕ → List ℕ → List ℕ → List ℕ
list_ranked_after table x work list = content_after (runs_ranked_answer table x (length work) (length list)) (run_numbers (rank_row table x)) list

-- And in its work buffer.
abbrev pub work_ranked_after : List ℕ → List ℕ → List ℕ → List ℕ → List ℕ
work_ranked_after table x work list = content_after (runs_ranked_answer table x (length work) (length list)) (both_arrays (rank_row table x)) work

-- By every table of 256 entries, answer, list and work buffer are those of `runs` for the row of ranks.
module _ (table : List ℕ) (whole : length table ≡ table_length) (x work list : List ℕ) where
  pub runs_by_rank :
      (runs_ranked_answer table x (length work) (length list) ≡ runs_answer (rank_row table x) (length work) (length list)) ×
      (list_ranked_after table x work list ≡ list_after (rank_row table x) work list) × (work_ranked_after table x work list ≡ work_after (rank_row table x) work list)
  runs_by_rank =
      let answer : runs_ranked_answer table x (length work) (length list) ≡ runs_answer (rank_row table x) (length work) (length list) =
      ranked_runs_as (length x) _ (length table) (length list) (length work) whole ∙
      ap (λ (n : ℕ). runs_checked n (length list) (length work) (accepted_with (length (run_list (rank_row table x))))) (sym (row_length table x)) in (
        answer,
        ap (λ (r : Answer). content_after r (run_numbers (rank_row table x)) list) answer,
        ap (λ (r : Answer). content_after r (both_arrays (rank_row table x)) work) answer,
      )

  -- A table that gives each byte its own number gives the answers of `runs`.
  pub runs_by_own_rank : ((a : ℕ) → a < table_length → get_or table a 0 ≡ a) → ((i : ℕ) → i < length x → get_or x i 0 < table_length) →
      (runs_ranked_answer table x (length work) (length list) ≡ runs_answer x (length work) (length list)) ×
      (list_ranked_after table x work list ≡ list_after x work list) × (work_ranked_after table x work list ≡ work_after x work list)
  runs_by_own_rank own bytes =
      let row : rank_row table x ≡ x = identity_row table x own bytes in (
        runs_by_rank.0 ∙ ap (λ (y : List ℕ). runs_answer y (length work) (length list)) row,
        runs_by_rank.1 ∙ ap (λ (y : List ℕ). list_after y work list) row,
        runs_by_rank.2 ∙ ap (λ (y : List ℕ). work_after y work list) row,
      )

  row_sized : Sized (length x) → Sized (length (rank_row table x))
  row_sized sized = record { some = omega (arith, sized.some, row_length table x); short = omega (arith, sized.short, row_length table x) }

  -- A list and a work buffer that are long enough.
  module _ (sized : Sized (length x)) (list_room : run_list_length (length x) ≤ length list) (work_room : work_length (length x) ≤ length work) where
    in_list : run_list_length (length (rank_row table x)) ≤ length list
    in_list = omega (arith, row_length table x)

    in_work : work_length (length (rank_row table x)) ≤ length work
    in_work = omega (arith, row_length table x)

    -- No text is refused; the count is the number of runs.
    pub runs_ranked_accepts : runs_ranked_answer table x (length work) (length list) ≡ accepted_with (length (run_list (rank_row table x)))
    runs_ranked_accepts = runs_by_rank.0 ∙ runs_accepts (rank_row table x) (row_sized sized) work list in_list in_work

    -- That list holds every run of the row of ranks once, and nothing else, by start and then by last position.
    pub runs_ranked_listed : IsRunList (rank_row table x) (run_list (rank_row table x))
    runs_ranked_listed = runs_listed (rank_row table x) (row_sized sized) work list in_list in_work

    -- Its numbers stand in the first places of the list, and the other places hold what they held before.
    pub runs_ranked_written : take (3 * length (run_list (rank_row table x))) (list_ranked_after table x work list) ≡ numbers (run_list (rank_row table x))
    runs_ranked_written =
        ap (take (3 * length (run_list (rank_row table x)))) runs_by_rank.1 ∙ runs_written (rank_row table x) (row_sized sized) work list in_list in_work

    pub runs_ranked_rest :
        drop (3 * length (run_list (rank_row table x))) (list_ranked_after table x work list) ≡ drop (3 * length (run_list (rank_row table x))) list
    runs_ranked_rest =
        ap (drop (3 * length (run_list (rank_row table x)))) runs_by_rank.1 ∙ runs_rest (rank_row table x) (row_sized sized) work list in_list in_work

    -- The first n numbers of the work buffer are the array rising by rank, the next n the one falling by rank; the others are as before.
    pub work_ranked_rising : IsLyndonArray rising (rank_row table x) (take (length (rank_row table x)) (take (work_length (length (rank_row table x))) (work_ranked_after table x work list)))
    work_ranked_rising = rw runs_by_rank.2 (work_rising (rank_row table x) (row_sized sized) work list in_list in_work)

    pub work_ranked_falling : IsLyndonArray falling (rank_row table x) (drop (length (rank_row table x)) (take (work_length (length (rank_row table x))) (work_ranked_after table x work list)))
    work_ranked_falling = rw runs_by_rank.2 (work_falling (rank_row table x) (row_sized sized) work list in_list in_work)

    pub work_ranked_rest : drop (work_length (length (rank_row table x))) (work_ranked_after table x work list) ≡ drop (work_length (length (rank_row table x))) work
    work_ranked_rest =
        ap (drop (work_length (length (rank_row table x)))) runs_by_rank.2 ∙ work_rest (rank_row table x) (row_sized sized) work list in_list in_work

  -- A list of fewer than 3 × (n − 1) numbers is refused, whatever the work buffer (document 02, E4).
  pub runs_ranked_short_list : Sized (length x) → length list < run_list_length (length x) →
      runs_ranked_answer table x (length work) (length list) ≡ refused_for ShortOutput 0
  runs_ranked_short_list sized short =
      runs_by_rank.0 ∙ runs_short_list (rank_row table x) (row_sized sized) work list (omega (arith, row_length table x))

-- By rank too the count is below n.
pub runs_ranked_bounded : (table x : List ℕ) → 0 < length x → length (run_list (rank_row table x)) < length x
runs_ranked_bounded table x some = omega (arith, runs_bounded (rank_row table x) (omega (arith, row_length table x)), row_length table x)

-- One letter needs no list by rank either, and has no run.
pub runs_ranked_of_one_letter : (table : List ℕ) → length table ≡ table_length → (a : ℕ) (work : List ℕ) → work_length 1 ≤ length work →
    runs_ranked_answer table (a ∷ []) (length work) 0 ≡ accepted_with 0
runs_ranked_of_one_letter table whole a work room = (runs_by_rank table whole (a ∷ []) work []).0 ∙ runs_of_one_letter (rank_by table a) work room
