-- Lyndon words by a test that computes, for letters whose comparisons are decided.
-- Assumes nothing.
use Rattle.std.specs.Prelude.{◌≡◌, refl, ◌↔◌, Bool, true, false, T}
use mathlib.Core.List.{List, [], ◌∷◌, ◌++◌, nil≢cons, cons≢nil, tail-eq_of_cons-eq}
use Rattle.words.specs.Letters.{Letters}
use Rattle.words.specs.Decided.{Decided}
use Rattle.words.specs.Word.{Less, span}
use Rattle.words.specs.Lyndon.{Lyndon}
use Rattle.words.specs.Laws.Lyndon.{LyndonTest}
use Rattle.words.specs.Compute.Word.{lessb, lessb_less, less_lessb}

-- w is smaller than all non-empty suffixes of s, as a test.
abbrev pub below_suffixes {ℓ κ} : {A : Type ℓ} {O : Letters {ℓ, κ} A} → Decided O → List A → List A → Bool
below_suffixes D w [] = true
below_suffixes D w (a ∷ s) = elim (lessb D w (a ∷ s)) [ true ↦ below_suffixes D w s | false ↦ false ]

-- w is a Lyndon word, as a test.
abbrev pub lyndonb {ℓ κ} : {A : Type ℓ} {O : Letters {ℓ, κ} A} → Decided O → List A → Bool
lyndonb D [] = false
lyndonb D (a ∷ w) = below_suffixes D (a ∷ w) w

module _ {ℓ κ} {A : Type ℓ} {O : Letters {ℓ, κ} A} (D : Decided O) where
  below_suffix : (w s u v : List A) → T (below_suffixes D w s) → s ≡ u ++ v → ¬ (v ≡ []) → Less O w v
  below_suffix w [] [] v t e d = absurd (d (cc))
  below_suffix w [] (b ∷ u) v t e d = absurd (nil≢cons e)
  below_suffix w (a ∷ s) u v t e d = go (lessb D w (a ∷ s)) refl t (below_suffix w s) u e
    where
      go : (b : Bool) → lessb D w (a ∷ s) ≡ b → T (elim b [ true ↦ below_suffixes D w s | false ↦ false ])
          → ((u v : List A) → T (below_suffixes D w s) → s ≡ u ++ v → ¬ (v ≡ []) → Less O w v)
          → (u : List A) → a ∷ s ≡ u ++ v → Less O w v
      go true p t h [] e = rw e at (lessb_less D w (a ∷ s) (rw p tt))
      go true p t h (b ∷ u) e = h u v t (tail-eq_of_cons-eq e) d
      go false p t h u e = absurd t

  below_suffixes_passes : (w s : List A) → ((u v : List A) → s ≡ u ++ v → ¬ (v ≡ []) → Less O w v) → T (below_suffixes D w s)
  below_suffixes_passes w [] h = tt
  below_suffixes_passes w (a ∷ s) h =
      go (lessb D w (a ∷ s)) (less_lessb D w (a ∷ s) (h [] (a ∷ s) refl cons≢nil))
      (below_suffixes_passes w s (λ u v e d. h (a ∷ u) v (cc) d))
    where
      go : (b : Bool) → T b → T (below_suffixes D w s) → T (elim b [ true ↦ below_suffixes D w s | false ↦ false ])
      go true t r = r
      go false t r = t

  -- A word that passes the test is a Lyndon word.
  pub lyndonb_lyndon : (w : List A) → T (lyndonb D w) → Lyndon O w
  lyndonb_lyndon [] t = absurd t
  lyndonb_lyndon (a ∷ w) t = record { non_empty = cons≢nil; smaller = smaller }
    where
      smaller : (u v : List A) → a ∷ w ≡ u ++ v → ¬ (u ≡ []) → ¬ (v ≡ []) → Less O (a ∷ w) v
      smaller [] v e c d = absurd (c refl)
      smaller (b ∷ u) v e c d = below_suffix (a ∷ w) w u v t (tail-eq_of_cons-eq e) d

  -- A Lyndon word passes the test.
  pub lyndon_lyndonb : (w : List A) → Lyndon O w → T (lyndonb D w)
  lyndon_lyndonb [] l = absurd (l.non_empty refl)
  lyndon_lyndonb (a ∷ w) l = below_suffixes_passes (a ∷ w) w (λ u v e d. l.smaller (a ∷ u) v (cc) cons≢nil d)

  -- The test decides whether a word is a Lyndon word.
  pub lyndonb_holds : (w : List A) → T (lyndonb D w) ↔ Lyndon O w
  lyndonb_holds w = (lyndonb_lyndon w, lyndon_lyndonb w)

  -- It is true of Lyndon words, and false of all others.
  pub lyndonb_true : (w : List A) → (lyndonb D w ≡ true) ↔ Lyndon O w
  lyndonb_true w = (λ e. lyndonb_lyndon w (rw e tt), λ l. go (lyndonb D w) (lyndon_lyndonb w l))
    where
      go : (b : Bool) → T b → b ≡ true
      go true t = refl
      go false t = absurd t

  pub lyndonb_false : (w : List A) → (lyndonb D w ≡ false) ↔ (¬ Lyndon O w)
  lyndonb_false w = (λ e l. rw e at (lyndon_lyndonb w l), λ n. go (lyndonb D w) refl n)
    where
      go : (b : Bool) → lyndonb D w ≡ b → ¬ Lyndon O w → b ≡ false
      go true e n = absurd (n ((lyndonb_true w).0 e))
      go false e n = refl

-- The test as one of the spans of a text.
abbrev pub lyndon_test {ℓ κ} : {A : Type ℓ} {O : Letters {ℓ, κ} A} → Decided O → (x : List A) → LyndonTest O x
lyndon_test D x = record { test = λ a b. lyndonb D (span a b x); right = λ a b h. lyndonb_holds D (span a b x) }
