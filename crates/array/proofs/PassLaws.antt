-- Visiting every position from the last to the first.
-- Assumes nothing.
use mathlib.Core.Path.{◌≡◌, ap, subst, sym, ◌∙◌}
use mathlib.Core.List.{List, [], ◌∷◌, ◌++◌}
use Prim.Native.Nat.{ℕ, suc, ◌+◌, ◌<◌, ◌≤◌, ◌-◌, ◌*◌}
use native.Mathlib.Omega.{arith}
use lib.ListN.{length, take, drop, length-append, length-take, length-drop}
use Rattle.words.specs.Runs.{Entry, numbers}
use Rattle.words.specs.Laws.EachRunOnce.{ListsDown, lists_none, lists_skip, lists_one}
use Rattle.words.proofs.Laws.EachRunOnce.{lists_fewer}
use Rattle.words.specs.Laws.ListedAlike.{lists_alike}
use Rattle.words.specs.Laws.OrderedAlike.{OrderedAlike}
use Rattle.words.specs.Laws.RunMarks.{ListedEntry, end_bound}
use Rattle.words.specs.Laws.Runs.{numbers_append}
use Rattle.words.specs.Laws.SpanLyndon.{letters}
use Rattle.words.specs.Letters.{rising, falling}
use Rattle.words.specs.Decided.{decided_rising}
use Rattle.words.specs.Compute.LyndonArray.{array_of_holds}
use Rattle.answer.specs.Limits.{max_length}
use Rattle.answer.specs.Content.{Written}
use Rattle.answer.specs.ContentLaws.{written_none, written_size, written_append, written_as}
use Rattle.array.specs.Core.RunPass.{Listed, skipped, listed, RoomAt, VisitReady, Visited, RoomFrom, PassReady, OrderDone, FindReady}
use Rattle.array.proofs.Filling.{Filled, filled_start, filled_ready}

-- The positions from i on have been visited; their entries stand in the list from entry `from` on.
pub record Passing (order : ℕ) (x buf list list' : List ℕ) (from i count : ℕ) : Type 0 where
  pub filled : Filled 0 x buf i
  pub entries : List Entry
  pub lists : ListsDown rising (letters 0 x) (length x) (end_bound order (length x)) i entries
  pub counted : count ≡ from + length entries
  pub content : Written list list' (3 * from) (3 * count) (numbers entries)

-- No position has been visited.
pub passing_start : (order : ℕ) (x buf list : List ℕ) (from n : ℕ) → RoomFrom order x list from → n ≡ length x → length buf ≡ length x →
    Passing order x buf list list from n from
passing_start order x buf list from n fits end size =
    record {
      filled = filled_start 0 x buf n end size;
      entries = [];
      lists =
          subst (λ (m : ℕ). ListsDown rising (letters 0 x) (length x) (end_bound order (length x)) m []) (sym end)
          (lists_none rising (letters 0 x) (length x) (end_bound order (length x)));
      counted = omega arith;
      content =
          written_none list (3 * from)
          (omega (arith, fits.room (length x) [] (lists_none rising (letters 0 x) (length x) (end_bound order (length x)))));
    }

-- What has been listed, by the position that comes next.
passing_lists : (order : ℕ) (x buf list list' : List ℕ) (from i m count : ℕ) → m ≡ suc i → (p : Passing order x buf list list' from m count) →
    ListsDown rising (letters 0 x) (length x) (end_bound order (length x)) (suc i) p.entries
passing_lists order x buf list list' from i m count next p =
    subst (λ (t : ℕ). ListsDown rising (letters 0 x) (length x) (end_bound order (length x)) t p.entries) next p.lists

-- Position i has been visited after those from m on.
visit_more : (order : ℕ) (x buf buf' list list' list'' : List ℕ) (from i m count r : ℕ) → Passing order x buf list list' from m count →
    m ≡ suc i → Visited order x buf buf' list' list'' i count r → Passing order x buf' list list'' from i r
visit_more order x buf buf' list list' list'' from i m count r p next v = go v.entry
  where
    lists : ListsDown rising (letters 0 x) (length x) (end_bound order (length x)) (suc i) p.entries
    lists = passing_lists order x buf list list' from i m count next p

    filled : Filled 0 x buf' i
    filled = record { size = v.size ∙ p.filled.size; rows = v.rows }

    go : Listed order x list' list'' i count r → Passing order x buf' list list'' from i r
    go (skipped a b c) =
        record {
          filled = filled;
          entries = p.entries;
          lists = lists_skip rising (letters 0 x) (length x) (end_bound order (length x)) i p.entries lists c;
          counted = a ∙ p.counted;
          content = rw (a, b) p.content;
        }
    go (listed e a b c) =
        record {
          filled = filled;
          entries = p.entries ++ (e ∷ []);
          lists = lists_one rising (letters 0 x) (length x) (end_bound order (length x)) i p.entries e lists a;
          counted = omega (arith, p.counted, length-append p.entries (e ∷ []));
          content = written_as (written_append p.content c) (sym (numbers_append p.entries (e ∷ [])));
        }

-- One position more has been visited.
pub passing_step : (order : ℕ) (x buf buf' list list' list'' : List ℕ) (from i count r : ℕ) → Passing order x buf list list' from i count →
    0 < i → Visited order x buf buf' list' list'' (i - 1) count r → Passing order x buf' list list'' from (i - 1) r
passing_step order x buf buf' list list' list'' from i count r p h v =
    visit_more order x buf buf' list list' list'' from (i - 1) i count r p (omega arith) v

-- There is room for the entry of the position before i, where it lists one: with it, the entries are what the positions from there on list.
passing_room : (order : ℕ) (x buf list list' : List ℕ) (from i count : ℕ) → Passing order x buf list list' from i count → 0 < i →
    RoomFrom order x list from → RoomAt order x list' count (i - 1)
passing_room order x buf list list' from i count p h fits = record { room = at }
  where
    bound : ℕ
    bound = end_bound order (length x)

    lists : ListsDown rising (letters 0 x) (length x) bound (suc (i - 1)) p.entries
    lists = passing_lists order x buf list list' from (i - 1) i count (omega arith) p

    at : (e : Entry) → ListedEntry rising (letters 0 x) (length x) bound (i - 1) e → 3 * count + 3 ≤ length list'
    at e w =
        let more =
        fits.room (i - 1) (p.entries ++ (e ∷ [])) (lists_one rising (letters 0 x) (length x) bound (i - 1) p.entries e lists w) in
        omega (arith, more, p.counted, length-append p.entries (e ∷ []), written_size p.content)

-- What visiting the position before i asks for.
pub passing_ready : (order : ℕ) (x buf list list' : List ℕ) (from i count n : ℕ) → Passing order x buf list list' from i count →
    length x ≤ max_length → 0 < i → i ≤ n → n ≡ length x → RoomFrom order x list from → VisitReady order x buf list' count (i - 1)
passing_ready order x buf list list' from i count n p small h q size room =
    record {
      join = filled_ready 0 x buf i n p.filled small h q size;
      fits = passing_room order x buf list list' from i count p h room;
    }

-- What the first pass asks for.
pub first_ready : (x work list : List ℕ) (n : ℕ) → FindReady x work list → n ≡ length x → PassReady 0 x (take n work) list 0
first_ready x work list n ready e =
    record { size = omega (arith, length-take n work, e, ready.work_room); small = ready.sized.short; entries_fit = record { room = entries } }
  where
    entries : (i : ℕ) (rs : List Entry) → ListsDown rising (letters 0 x) (length x) (end_bound 0 (length x)) i rs → 3 * (0 + length rs) ≤ length list
    entries i rs lists =
        let fewer =
        lists_fewer rising 0 x ready.sized.some i (length x) rs [] lists (lists_none falling (letters 0 x) (length x) (length x)) in
        omega (arith, fewer, length-append rs [], ready.list_room)

-- What the letters y list, which compare as those of x do in falling order, is what those of x list in that order.
pub falling_lists : (x y : List ℕ) (i : ℕ) (rs : List Entry) → OrderedAlike rising falling 0 0 y x →
    ListsDown rising (letters 0 y) (length y) (end_bound 1 (length y)) i rs → ListsDown falling (letters 0 x) (length x) (end_bound 1 (length x)) i rs
falling_lists x y i rs alike lists =
    subst (λ (n : ℕ). ListsDown falling (letters 0 x) n (end_bound 1 n) i rs) (sym alike.size) (lists_alike alike.there alike.back lists)

-- What the second pass asks for, of such letters, behind the first array: the places from n to m, which are as many again.
pub second_ready : (x y part work list list₁ : List ℕ) (first n m : ℕ) → FindReady x work list → n ≡ length x → m ≡ 2 * n →
    OrderedAlike rising falling 0 0 y x → OrderDone decided_rising 0 x part list list₁ 0 first →
    PassReady 1 y (take (m - n) (drop n (part ++ drop n work))) list₁ first
second_ready x y part work list list₁ first n m ready e twice alike done =
    record {
      size =
          omega (
            arith,
            length-take (m - n) (drop n (part ++ drop n work)),
            length-drop n (part ++ drop n work),
            length-append part (drop n work),
            length-drop n work,
            ap length done.array,
            (array_of_holds decided_rising x).size,
            e,
            twice,
            ready.work_room,
            alike.size,
          );
      small = omega (arith, ready.sized.short, alike.size);
      entries_fit = record { room = entries };
    }
  where
    entries : (i : ℕ) (ts : List Entry) → ListsDown rising (letters 0 y) (length y) (end_bound 1 (length y)) i ts → 3 * (first + length ts) ≤ length list₁
    entries i ts lists =
        let fewer = lists_fewer rising 0 x ready.sized.some 0 i done.entries ts done.lists (falling_lists x y i ts alike lists) in
        omega (arith, fewer, length-append done.entries ts, done.counted, written_size done.content, ready.list_room)
