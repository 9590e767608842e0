-- A buffer after something was written into it: new values at the places written, all other places as before.
-- Assumes nothing.
use Rattle.std.specs.Prelude.{◌≡◌, List, ◌++◌, ℕ, ◌+◌, ◌<◌, ◌≤◌, length, get_or, take, drop}
use Rattle.answer.specs.Limits.{max_length}

-- The places t with P t hold what they held before.
pub record Kept (P : ℕ → Type 0) (before after : List ℕ) : Type 0 where
  pub size : length after ≡ length before
  pub kept : (t : ℕ) → P t → get_or after t 0 ≡ get_or before t 0

-- The places from n on.
abbrev pub From : ℕ → ℕ → Type 0
From n t = n ≤ t

-- All places but i.
abbrev pub Except : ℕ → ℕ → Type 0
Except i t = ¬ (t ≡ i)

-- Place i holds v, all else is as before.
pub record Stored (i v : ℕ) (before after : List ℕ) : Type 0 where
  pub here : get_or after i 0 ≡ v
  pub others : Kept (Except i) before after

-- The first n places hold the values of f, all else is as before.
pub record Holds (f : ℕ → ℕ) (n : ℕ) (before after : List ℕ) : Type 0 where
  pub value : (t : ℕ) → t < n → get_or after t 0 ≡ f t
  pub others : Kept (From n) before after

-- The places from `at` up to `next` hold the list l, all else is as before.
pub record Written (before after : List ℕ) (at next : ℕ) (l : List ℕ) : Type 0 where
  pub past : next ≡ at + length l
  pub fits : next ≤ length before
  pub content : after ≡ take at before ++ l ++ drop next before

-- Where l is still to be written from `at` on into b, that makes all of l₀ written from at₀ on into b₀.
pub record Pending (b : List ℕ) (at : ℕ) (l b₀ : List ℕ) (at₀ : ℕ) (l₀ : List ℕ) : Type 0 where
  pub completed : (a : List ℕ) (next : ℕ) → Written b a at next l → Written b₀ a at₀ next l₀

-- What the work of a call may take for granted once its checks have passed: the text is no longer than the limit, and the buffer has a place for
-- each letter.
pub record TextRoom (text out : List ℕ) : Type 0 where
  pub short : length text ≤ max_length
  pub places : length text ≤ length out
