-- Both passes and the sort together: the run list, and the two arrays in the work buffer.
-- Assumes nothing.
use Rattle.std.proofs.Common.{ap₂}
use mathlib.Core.Path.{◌≡◌, sym, ap, subst, ◌∙◌}
use mathlib.Core.List.{List, ◌++◌, append_assoc}
use Prim.Native.Nat.{ℕ, ◌+◌, ◌-◌, ◌*◌, ◌<◌}
use native.Mathlib.Omega.{arith}
use lib.ListN.{length, take, drop, length-append}
use lib.Seq.{take_at, drop_at, drop-drop}
use Rattle.words.specs.Letters.{rising, falling}
use Rattle.words.specs.Decided.{decided_rising, decided_falling, decided_order}
use Rattle.words.specs.Equality.{decided_number_equality}
use Rattle.words.specs.Runs.{Entry, numbers}
use Rattle.words.specs.Laws.EachRunOnce.{EachRunOnce}
use Rattle.words.proofs.Laws.EachRunOnce.{lists_fewer, each_run_once, rearranged_run_list}
use Rattle.words.specs.Laws.Runs.{numbers_append, numbers_length}
use Rattle.words.proofs.Laws.Runs.{run_list_unique}
use Rattle.words.specs.Compute.LyndonArray.{array_of, array_of_holds}
use Rattle.words.proofs.Laws.RunSearch.{runs_of_holds}
use Rattle.words.specs.Laws.Unique.{array_unique}
use Rattle.words.specs.Laws.OrderedAlike.{OrderedAlike, alike_array}
use Rattle.answer.specs.declared.Answer.{Answer}
use Rattle.answer.specs.Answers.{accepted_with}
use Rattle.answer.specs.AfterCall.{written}
use Rattle.answer.specs.ContentLaws.{written_append, written_as, written_whole}
use Rattle.letters.specs.Ranks.{rank_row}
use Rattle.letters.specs.Keys.{turned_table}
use Rattle.letters.specs.RankLaws.{Bytes, turned_alike}
use Rattle.sorting.specs.Triples.{sorted_content}
use Rattle.array.specs.Calls.{run_list, both_arrays}
use Rattle.array.proofs.Entries.{letters_compared}
use Rattle.array.specs.Core.RunPass.{OrderDone, FindReady, RunsFound}
use Rattle.array.proofs.PassLaws.{falling_lists}
use Rattle.array.proofs.RunList.{RunsSorted, runs_sorted, sorted_member, member_sorted, sorted_length}

module _ (x work part₁ part₂ list list₁ list₂ : List ℕ) (first count : ℕ) (a : OrderDone decided_rising 0 x part₁ list list₁ 0 first)
    (b : OrderDone decided_falling 1 x part₂ list₁ list₂ first count) (ready : FindReady x work list) where
  once : EachRunOnce x (a.entries ++ b.entries)
  once = each_run_once rising 0 x (letters_compared 0 x) a.entries b.entries a.lists b.lists

  found : list₂ ≡ written (numbers (a.entries ++ b.entries)) list
  found = written_whole (written_as (written_append a.content b.content) (sym (numbers_append a.entries b.entries)))

  number : count ≡ length (a.entries ++ b.entries)
  number = omega (arith, a.counted, b.counted, length-append a.entries b.entries)

  pub few : count < length x
  few = omega (arith, number, lists_fewer rising 0 x ready.sized.some 0 0 a.entries b.entries a.lists b.lists)

  size : (order : ℕ) → length (array_of (decided_order order) x) ≡ length x
  size order = (array_of_holds (decided_order order) x).size

  -- The work buffer, each part written behind the one before it.
  both_written : (n m : ℕ) → n ≡ length x → m ≡ 2 * n →
      take n (part₁ ++ drop n work) ++ (part₂ ++ drop (m - n) (drop n (part₁ ++ drop n work))) ≡ written (both_arrays x) work
  both_written n m e twice =
      let s : length part₁ ≡ n = ap length a.array ∙ size 0 ∙ sym e in
      let z : m - n ≡ n = omega arith in
      let w : n + n ≡ length (part₁ ++ part₂) = omega (arith, e, length-append part₁ part₂, s, ap length b.array, size 1) in
      rw (take_at part₁ (drop n work) n s, drop_at part₁ (drop n work) n s, z, drop-drop n n work, w, ← append_assoc part₁ part₂ _)
      (ap (λ (l : List ℕ). written l work) (ap₂ (λ (l m : List ℕ). l ++ m) a.array b.array))

  module _ (list₃ : List ℕ) (s : list₃ ≡ sorted_content count list₂) where
    sorted : RunsSorted (a.entries ++ b.entries) (drop (length (numbers (a.entries ++ b.entries))) list) list₃
    sorted =
        runs_sorted (a.entries ++ b.entries) (drop (length (numbers (a.entries ++ b.entries))) list) list₂ list₃ found
        (subst (λ (k : ℕ). list₃ ≡ sorted_content k list₂) number s)

    is_list : sorted.entries ≡ run_list x
    is_list =
        run_list_unique
        (rearranged_run_list x (a.entries ++ b.entries) sorted.entries once (member_sorted sorted) (sorted_member sorted)
        (sorted_length sorted) sorted.ordered)
        (runs_of_holds decided_number_equality x)

    pub both_found : (n m : ℕ) → n ≡ length x → m ≡ 2 * n → (answer : Answer) → answer ≡ accepted_with count →
        RunsFound x work (take n (part₁ ++ drop n work) ++ (part₂ ++ drop (m - n) (drop n (part₁ ++ drop n work)))) list list₃ answer
    both_found n m e twice answer told =
        record {
          counted = told ∙ ap accepted_with (number ∙ sym (sorted_length sorted) ∙ ap length is_list);
          entries =
              sorted.content ∙
              ap (λ (m : ℕ). numbers sorted.entries ++ drop m list)
              (numbers_length (a.entries ++ b.entries) ∙ ap (λ (k : ℕ). 3 * k) (sym (sorted_length sorted)) ∙ sym (numbers_length sorted.entries)) ∙
              ap (λ (rs : List Entry). written (numbers rs) list) is_list;
          arrays = both_written n m e twice;
        }

-- The second pass goes by the letters y, which compare as those of x do in falling order: it is the falling pass of x.
pub falling_done : (x y after list list' : List ℕ) (from count : ℕ) → OrderedAlike rising falling 0 0 y x →
    OrderDone decided_rising 1 y after list list' from count → OrderDone decided_falling 1 x after list list' from count
falling_done x y after list list' from count alike w =
    record {
      array =
          w.array ∙
          array_unique (alike_array alike (array_of decided_rising y) (array_of_holds decided_rising y)) (array_of_holds decided_falling x);
      entries = w.entries;
      lists = falling_lists x y 0 w.entries alike w.lists;
      counted = w.counted;
      content = w.content;
    }

-- The letters by a table turned round.
pub turned_row : (turned keys x : List ℕ) → Bytes x → Bytes keys → turned ≡ turned_table keys →
    OrderedAlike rising falling 0 0 (rank_row turned x) (rank_row keys x)
turned_row turned keys x text ranks e =
    subst (λ (k : List ℕ). OrderedAlike rising falling 0 0 (rank_row k x) (rank_row keys x)) (sym e) (turned_alike keys x text ranks)
