-- The order of words as a test that computes, for letters whose comparisons are decided.
-- Assumes nothing.
use Rattle.std.specs.Prelude.{◌≡◌, refl, ◌↔◌, Bool, true, false, List, [], ◌∷◌, ◌++◌, T}
use Rattle.std.proofs.Common.{inl, inr}
use Rattle.words.specs.Letters.{Letters, Smaller}
use Rattle.words.specs.Decided.{Comparison, below, same, above, Means, Decided}
use Rattle.words.specs.Word.{Less}
use Rattle.words.specs.Laws.WordOrder.{nil_less, head_less, cons_less}

-- u is smaller than v, as a test.
abbrev pub lessb {ℓ κ} : {A : Type ℓ} {O : Letters {ℓ, κ} A} → Decided O → List A → List A → Bool
lessb D [] [] = false
lessb D [] (b ∷ v) = true
lessb D (a ∷ u) [] = false
lessb D (a ∷ u) (b ∷ v) = elim (D.compare a b) [ below ↦ true | same ↦ lessb D u v | above ↦ false ]

module _ {ℓ κ} {A : Type ℓ} {O : Letters {ℓ, κ} A} (D : Decided O) where
  -- A letter compared with itself is the same.
  pub compare_self : (a : A) → D.compare a a ≡ same
  compare_self a = go (D.compare a a) (D.right a a)
    where
      go : (c : Comparison) → Means O c a a → c ≡ same
      go below m = absurd (m.0 refl)
      go same m = refl
      go above m = absurd (m.0 refl)

  -- A smaller letter compares below.
  pub compare_smaller : (a b : A) → Smaller O a b → D.compare a b ≡ below
  compare_smaller a b h = go (D.compare a b) (D.right a b)
    where
      go : (c : Comparison) → Means O c a b → c ≡ below
      go below m = refl
      go same m = absurd (h.0 m.lower)
      go above m = absurd (O.not_both a b h.0 (h.1, m.1))

  -- A word that passes the test is smaller.
  pub lessb_less : (u v : List A) → T (lessb D u v) → Less O u v
  lessb_less [] [] t = absurd t
  lessb_less [] (b ∷ v) t = nil_less b v
  lessb_less (a ∷ u) [] t = absurd t
  lessb_less (a ∷ u) (b ∷ v) t = go (D.compare a b) (D.right a b) t (lessb_less u v)
    where
      go : (c : Comparison) → Means O c a b → T (elim c [ below ↦ true | same ↦ lessb D u v | above ↦ false ])
          → (T (lessb D u v) → Less O u v) → Less O (a ∷ u) (b ∷ v)
      go below m t h = head_less u v m
      go same m t h = cons_less m.lower (h t)
      go above m t h = absurd t

  lessb_strongly : (r s t : List A) (a b : A) → Smaller O a b → T (lessb D (r ++ (a ∷ s)) (r ++ (b ∷ t)))
  lessb_strongly [] s t a b h = rw (compare_smaller a b h) tt
  lessb_strongly (c ∷ r) s t a b h = rw (compare_self c) (lessb_strongly r s t a b h)

  lessb_prefix : (u v : List A) → ¬ (v ≡ []) → T (lessb D u (u ++ v))
  lessb_prefix [] [] d = absurd (d refl)
  lessb_prefix [] (b ∷ v) d = tt
  lessb_prefix (a ∷ u) v d = rw (compare_self a) (lessb_prefix u v d)

  -- A smaller word passes the test.
  pub less_lessb : (u v : List A) → Less O u v → T (lessb D u v)
  less_lessb u v (inl h) = rw (h.left, h.right) (lessb_strongly h.r h.s h.t h.a h.b h.smaller)
  less_lessb u v (inr h) = rw h.joined (lessb_prefix u h.rest h.more)

  -- The test decides the order of words.
  pub lessb_holds : (u v : List A) → T (lessb D u v) ↔ Less O u v
  lessb_holds u v = (lessb_less u v, less_lessb u v)
