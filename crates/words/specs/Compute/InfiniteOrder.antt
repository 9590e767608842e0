-- The infinite order of words by a comparison that computes, for letters whose comparisons are decided.
-- Assumes nothing.
use Rattle.std.specs.Prelude.{◌≡◌, refl, List, [], ◌∷◌, ℕ, zero, suc, ◌+◌, ◌%◌, length, get_or}
use Rattle.std.proofs.Math.Logic.{Lift}
use Rattle.words.specs.Letters.{Letters}
use Rattle.words.specs.Decided.{Comparison, below, same, above, Decided, compare_numbers, decided_rising}
use Rattle.words.specs.InfiniteOrder.{InfiniteLess}

-- What an answer says of two words.
abbrev pub InfiniteMeans {ℓ κ} : {A : Type ℓ} → Letters {ℓ, κ} A → Comparison → List A → List A → Type (ℓ ⊔ κ)
InfiniteMeans O below u v = InfiniteLess O u v
InfiniteMeans O same u v = Lift {ℓ, κ} (u ≡ v)
InfiniteMeans O above u v = InfiniteLess O v u

-- Letter k of endless copies of u, as a letter; z stands where u is empty, and nowhere else.
abbrev pub copied {ℓ} : {A : Type ℓ} → A → List A → ℕ → A
copied z u k = get_or u (k % length u) z

-- Endless copies of u and of v are compared letter by letter from position k on, `left` letters of each at most: the first two that differ
-- decide.
abbrev pub compare_copies {ℓ κ} : {A : Type ℓ} {O : Letters {ℓ, κ} A} → Decided O → A → (u v : List A) → (left k : ℕ) → Comparison
compare_copies D z u v zero k = same
compare_copies D z u v (suc left) k =
    elim (D.compare (copied z u k) (copied z v k)) [ below ↦ below | same ↦ compare_copies D z u v left (suc k) | above ↦ above ]

-- The first of two answers, where it is not `same`.
abbrev pub or_else : Comparison → Comparison → Comparison
or_else below c = below
or_else same c = c
or_else above c = above

-- u and v in infinite order: |u| + |v| letters of each are enough (`Laws/Endless` `agree_forever`); where they are the same, the longer word is
-- the smaller.
abbrev pub compare_infinite {ℓ κ} : {A : Type ℓ} {O : Letters {ℓ, κ} A} → Decided O → A → List A → List A → Comparison
compare_infinite D z u v = or_else (compare_copies D z u v (length u + length v) 0) (compare_numbers (length v) (length u))

-- The copies of a and of aa never differ, and the longer is the smaller.
pub longer_below : compare_infinite decided_rising 0 (97 ∷ 97 ∷ []) (97 ∷ []) ≡ below
longer_below = refl

-- The copies of aab and of aabaa first differ at position 5, behind both words.
pub differ_behind : compare_infinite decided_rising 0 (97 ∷ 97 ∷ 98 ∷ []) (97 ∷ 97 ∷ 98 ∷ 97 ∷ 97 ∷ []) ≡ above
differ_behind = refl

-- Equal words are the same.
pub same_word : compare_infinite decided_rising 0 (97 ∷ 98 ∷ []) (97 ∷ 98 ∷ []) ≡ same
same_word = refl
