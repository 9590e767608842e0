-- A buffer filled position by position: at its turn a position hands a value to each position whose innermost span is its own.
-- Assumes nothing.
use mathlib.Core.Path.{◌≡◌, sym, ◌∙◌}
use mathlib.Core.List.{List}
use Prim.Native.Nat.{ℕ, ◌+◌, ◌-◌, ◌<◌, ◌≤◌}
use native.Mathlib.Omega.{arith}
use lib.ListN.{length, get_or, set}
use Rattle.words.specs.Tabulate.{tabulate}
use Rattle.words.specs.ValidArray.{Valid, holding, letter_for}
use Rattle.words.specs.ArrayForest.{end_of, first_for}
use Rattle.words.specs.Laws.ValidSpans.{Innermost, Unheld, InnermostCase, held, unheld, innermost_case, innermost_is, unheld_is}
use Rattle.words.specs.Laws.ValidText.{depth_at_most, depth_of_root, depth_of_child, letter_below}
use Rattle.answer.specs.Content.{Stored, Holds}
use Rattle.answer.specs.ContentLaws.{kept_all, stored}
use Rattle.from_array.specs.Marked.{Marked}
use Rattle.from_array.proofs.Values.{tabulated}

-- The positions below i had their turn and hold g; of the others those hold f that no earlier span holds, or whose innermost span is that
-- of a position below i.
pub record Filling (f g : ℕ → ℕ) (a : List ℕ) (i : ℕ) (now : List ℕ) : Type 0 where
  pub done : (j : ℕ) → j < i → get_or now j 0 ≡ g j
  pub root : (j : ℕ) → i ≤ j → j < length a → Unheld a j j → get_or now j 0 ≡ f j
  pub child : (j m : ℕ) → i ≤ j → j < length a → m < i → Innermost a j j m → get_or now j 0 ≡ f j
  pub size : length now ≡ length a

module _ (f g : ℕ → ℕ) (a : List ℕ) where
  -- Before the first turn every position holds what one that no earlier span holds is to have.
  filling_starts : (now : List ℕ) → length now ≡ length a → ((j : ℕ) → j < length a → Unheld a j j → get_or now j 0 ≡ f j) → Filling f g a 0 now
  filling_starts now size h =
      record {
        done = λ j p. absurd (omega arith);
        root = λ j p q u. h j q u;
        child = λ j m p q n. absurd (omega arith);
        size = size;
      }

  module _ (i : ℕ) (now : List ℕ) (w : Filling f g a i now) where
    -- At its turn a position holds f.
    filling_here : i < length a → get_or now i 0 ≡ f i
    filling_here h = go (innermost_case a i i)
      where
        go : InnermostCase a i i → get_or now i 0 ≡ f i
        go (held m e n) = w.child i m (omega arith) h n.below n
        go (unheld e u) = w.root i (omega arith) h u

    -- One turn: i hands v to the positions whose innermost span is its own, and then holds g itself.
    filling_goes_on : (v : ℕ) (marked after : List ℕ) → Marked a i v now marked → ((j : ℕ) → j < length a → Innermost a j j i → v ≡ f j)
        → Stored i (g i) marked after → Filling f g a (i + 1) after
    filling_goes_on v marked after m handed s =
        record {
          done = λ j p. grind (arith, w.done j, s.here, λ (l : j < i). s.others.kept j (λ z. omega arith) ∙ m.others.kept j (λ n. omega (arith, n.below)));
          root = λ j p q u. s.others.kept j (λ z. omega arith) ∙ m.others.kept j (λ n. omega (arith, u i (omega arith), n.holds)) ∙ w.root j (omega arith) q u;
          child = λ j k p q r n. grind (arith, n, w.child j k, m.inner j, handed j q, innermost_is a j j, s.others.kept j, m.others.kept j);
          size = s.others.size ∙ m.others.size ∙ w.size;
        }

    -- After the last turn every position of the array holds g.
    pub filling_ends : length a ≤ i → now ≡ tabulate g 0 (length a)
    filling_ends h = tabulated g (length a) now w.size (λ j p. w.done j (omega arith))

module _ (a : List ℕ) where
  -- FIRST starts with every position itself.
  pub first_starts : (before now : List ℕ) → length before ≡ length a → Holds (λ j. j) (length before) before now
      → Filling (first_for a) (first_for a) a 0 now
  first_starts before now size w =
      filling_starts (first_for a) (first_for a) a now (w.others.size ∙ size) (λ j p u. w.value j (omega arith) ∙ sym (unheld_is a j j u))

  pub first_goes_on : (i : ℕ) (now marked : List ℕ) → Filling (first_for a) (first_for a) a i now → i < length a → Marked a i i now marked
      → Filling (first_for a) (first_for a) a (i + 1) marked
  first_goes_on i now marked w h m =
      filling_goes_on (first_for a) (first_for a) a i now w i marked marked m (λ j p n. sym (innermost_is a j j i n))
      (record {
        here = m.others.kept i (λ n. omega (arith, n.below)) ∙ filling_here (first_for a) (first_for a) a i now w h;
        others = kept_all marked;
      })

-- The number of earlier spans that hold a position.
abbrev pub depth : List ℕ → ℕ → ℕ
depth a j = holding a j j

module _ (a : List ℕ) where
  -- The text starts with 0 everywhere.
  pub text_starts : (now : List ℕ) → length now ≡ length a → ((j : ℕ) → j < length a → get_or now j 0 ≡ 0) → Filling (depth a) (letter_for a) a 0 now
  text_starts now size h = filling_starts (depth a) (letter_for a) a now size (λ j p u. h j p ∙ sym (depth_of_root a j u))

  module _ (valid : Valid a) (i : ℕ) (now : List ℕ) (w : Filling (depth a) (letter_for a) a i now) (h : i < length a) where
    -- What the place holds when the position's turn comes.
    depth_here : get_or now i 0 ≡ depth a i
    depth_here = filling_here (depth a) (letter_for a) a i now w h

    pub depth_small : get_or now i 0 ≤ i
    depth_small = omega (arith, depth_here, depth_at_most a i)

    -- The letter that is stored.
    letter_here : (end : ℕ) → end ≡ end_of a i → get_or now i 0 + (length a - end) ≡ letter_for a i
    letter_here end e = omega (arith, depth_here)

    pub letter_small : (end : ℕ) → end ≡ end_of a i → get_or now i 0 + (length a - end) < length a
    letter_small end e = omega (arith, letter_here end e, letter_below a valid i h)

    pub text_goes_on : (end : ℕ) (marked : List ℕ) → end ≡ end_of a i → Marked a i (get_or now i 0 + 1) now marked
        → Filling (depth a) (letter_for a) a (i + 1) (set marked i (get_or now i 0 + (length a - end)))
    text_goes_on end marked e m =
        let s = stored marked i (get_or now i 0 + (length a - end)) (omega (arith, w.size, m.others.size)) in
        filling_goes_on (depth a) (letter_for a) a i now w (get_or now i 0 + 1) marked (set marked i (get_or now i 0 + (length a - end))) m
        (λ j p n. omega (arith, depth_here, depth_of_child a valid i j p n))
        (record { here = s.here ∙ letter_here end e; others = s.others })
