-- What a position lists depends on how the letters compare, and on nothing else about them.
-- Assumes nothing.
use Rattle.std.specs.Prelude.{ℕ, ◌+◌, ◌≤◌, List}
use Rattle.std.proofs.Common.{arith}
use Rattle.words.specs.Letters.{Letters}
use Rattle.words.specs.Runs.{Entry}
use Rattle.words.specs.Laws.Position.{Agree}
use Rattle.words.specs.Laws.SuffixOrder.{SuffixLess, ends, parts, NextSmaller}
use Rattle.words.specs.Laws.OrderedAlike.{Carries}
use Rattle.words.specs.Laws.RunExtent.{Extent}
use Rattle.words.specs.Laws.RunListing.{ListedAt}
use Rattle.words.specs.Laws.EachRunOnce.{ListedFrom, ListsDown}

module _ {ℓ κ ℓ' κ'} {A : Type ℓ} {B : Type ℓ'} {O : Letters {ℓ, κ} A} {P : Letters {ℓ', κ'} B} {x : ℕ → A} {y : ℕ → B} {n : ℕ} (c : Carries O P x y n) where
  agree_carries : (i j d : ℕ) → i + d ≤ n → j + d ≤ n → Agree x i j d → Agree y i j d
  agree_carries i j d a b g k l = c.equal (i + k) (j + k) (omega arith) (omega arith) (g k l)

  suffix_carries : {i j : ℕ} → SuffixLess O x n i j → SuffixLess P y n i j
  suffix_carries {i} {j} (ends d a b g) = ends d a b (agree_carries i j d (omega arith) (omega arith) g)
  suffix_carries {i} {j} (parts d a b g s) =
      parts d a b (agree_carries i j d (omega arith) (omega arith) g) (c.smaller (i + d) (j + d) a b s)

  next_carries : {i e : ℕ} → NextSmaller O x n i e → NextSmaller P y n i e
  next_carries w =
      record {
        after = w.after;
        inside = w.inside;
        drops = suffix_carries w.drops;
        between = λ k a b. suffix_carries (w.between k a b);
      }

  module _ (back : Carries P O y x n) where
    extent_carries : {i s e p : ℕ} → Extent x n i s e p → Extent y n i s e p
    extent_carries {i} {s} {e} {p} w =
        record {
          low = w.low;
          high = w.high;
          inside = w.inside;
          left = λ t a b. c.equal t (t + p) (omega (arith, w.high, w.inside)) (omega (arith, w.high, w.inside)) (w.left t a b);
          right = λ t a b. c.equal t (t + p) (omega (arith, w.inside)) (omega (arith, w.inside)) (w.right t a b);
          left_stops =
              λ t a z.
              w.left_stops t a
              (back.equal t (t + p) (omega (arith, w.low, w.high, w.inside)) (omega (arith, w.low, w.high, w.inside)) z);
          right_stops = λ t a b z. w.right_stops t a b (back.equal t e (omega arith) b z);
        }

    listed_carries : {bound i s e p : ℕ} → ListedAt O x n bound i s e p → ListedAt P y n bound i s e p
    listed_carries w =
        record { next = next_carries w.next; extent = extent_carries w.extent; twice = w.twice; last = w.last; early = w.early }

    from_carries : {bound i : ℕ} {r : Entry} → ListedFrom O x n bound i r → ListedFrom P y n bound i r
    from_carries w = record { place = w.place; low = w.low; listed = listed_carries w.listed }

-- Two texts whose letters compare alike list the same.
pub lists_alike {ℓ κ ℓ' κ'} : {A : Type ℓ} {B : Type ℓ'} {O : Letters {ℓ, κ} A} {P : Letters {ℓ', κ'} B} {x : ℕ → A} {y : ℕ → B} {n bound i : ℕ}
    {rs : List Entry} → Carries O P x y n → Carries P O y x n → ListsDown O x n bound i rs → ListsDown P y n bound i rs
lists_alike there back w =
    record {
      sound = λ r m. from_carries there back (w.sound r m);
      complete = λ r l. w.complete r (from_carries back there l);
      different = w.different;
    }
