-- The order of words by positions: the first offset at which two words differ.
-- Assumes nothing.
use Rattle.std.specs.Prelude.{◌≡◌, refl, List, [], ◌∷◌, ◌++◌, ℕ, suc, ◌<◌, ◌≤◌, length, get_or, take, drop}
use Rattle.std.proofs.Common.{sym, ap, subst, ◌∙◌, arith, length-append, length-drop, take-append-drop, ext_get_or, get_or-take, length-take-le}
use Rattle.std.proofs.Math.ListN.{get_or-append}
use Rattle.std.proofs.Math.Seq.{split_at, get_or-append_seam, take-length}
use Rattle.words.specs.Letters.{Letters, Smaller}
use Rattle.words.specs.Word.{ProperPrefix, StronglyLess}

-- The two words have the same letters below offset d; z stands for a letter past the end.
abbrev pub Alike {ℓ} : {A : Type ℓ} → A → List A → List A → ℕ → Type ℓ
Alike z u v d = (k : ℕ) → k < d → get_or u k z ≡ get_or v k z

-- Up to there they are the same.
pub take_alike {ℓ} : {A : Type ℓ} (z : A) (u v : List A) (d : ℕ) → d ≤ length u → d ≤ length v → Alike z u v d → take d u ≡ take d v
take_alike z u v d p q h =
    ext_get_or z (take d u) (take d v) (length-take-le d u p ∙ sym (length-take-le d v q))
    (λ i l.
    let l' : i < d = subst (λ (m : ℕ). i < m) (length-take-le d u p) l in
    get_or-take d u i z l' ∙ h i l' ∙ sym (get_or-take d v i z l'))

-- u and v first differ at an offset inside both, where u has the smaller letter.
pub record DiffersAt {ℓ κ} {A : Type ℓ} (O : Letters {ℓ, κ} A) (z : A) (u v : List A) (d : ℕ) : Type (ℓ ⊔ κ) where
  pub in_left : d < length u
  pub in_right : d < length v
  pub alike : Alike z u v d
  pub smaller : Smaller O (get_or u d z) (get_or v d z)

module _ {ℓ κ} {A : Type ℓ} (O : Letters {ℓ, κ} A) (z : A) where
  pub strongly_less_differs : (u v : List A) → StronglyLess O u v → (d : ℕ) × DiffersAt O z u v d
  strongly_less_differs u v h = (
    length h.r,
    record {
      in_left = omega (arith, simp length-append at (ap length h.left));
      in_right = omega (arith, simp length-append at (ap length h.right));
      alike =
          λ k l.
          ap (λ (w : List A). get_or w k z) h.left ∙ get_or-append h.r (h.a ∷ h.s) z k l ∙
          sym (ap (λ (w : List A). get_or w k z) h.right ∙ get_or-append h.r (h.b ∷ h.t) z k l);
      smaller =
          subst (λ (c : A). Smaller O c (get_or v (length h.r) z))
          (sym (ap (λ (w : List A). get_or w (length h.r) z) h.left ∙ get_or-append_seam h.r h.a h.s z))
          (subst (λ (c : A). Smaller O h.a c)
          (sym (ap (λ (w : List A). get_or w (length h.r) z) h.right ∙ get_or-append_seam h.r h.b h.t z))
          h.smaller);
    },
  )

  pub differs_strongly_less : (u v : List A) (d : ℕ) → DiffersAt O z u v d → StronglyLess O u v
  differs_strongly_less u v d h =
      record {
        r = take d u;
        s = drop (suc d) u;
        t = drop (suc d) v;
        a = get_or u d z;
        b = get_or v d z;
        left = split_at u d z h.in_left;
        right =
            split_at v d z h.in_right ∙
            ap (λ (w : List A). w ++ (get_or v d z ∷ drop (suc d) v)) (sym (take_alike z u v d (omega arith) (omega arith) h.alike));
        smaller = h.smaller;
      }

  pub proper_prefix_alike : (u v : List A) → ProperPrefix u v → (length u < length v) × Alike z u v (length u)
  proper_prefix_alike u v h = (
    go h.rest h.more h.joined,
    λ k l. sym (ap (λ (w : List A). get_or w k z) h.joined ∙ get_or-append u h.rest z k l),
  )
    where
      go : (t : List A) → ¬ (t ≡ []) → v ≡ u ++ t → length u < length v
      go [] m e = absurd (m refl)
      go (c ∷ t) m e = omega (arith, simp length-append at (ap length e))

  pub alike_proper_prefix : (u v : List A) → length u < length v → Alike z u v (length u) → ProperPrefix u v
  alike_proper_prefix u v l h =
      record {
        rest = drop (length u) v;
        more = λ e. omega (arith, length-drop (length u) v, ap length e);
        joined =
            sym (take-append-drop (length u) v) ∙
            ap (λ (w : List A). w ++ drop (length u) v)
            (sym (take_alike z u v (length u) (omega arith) (omega arith) h) ∙ take-length u);
      }
