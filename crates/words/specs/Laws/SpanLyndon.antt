-- The definitions on words, for the spans of a text, are the forms by positions.
-- Assumes nothing.
use Rattle.std.specs.Prelude.{◌≡◌, refl, ◌⊎◌, List, [], ◌∷◌, ◌++◌, ℕ, ◌+◌, ◌-◌, ◌<◌, ◌≤◌, length, get_or, take, drop}
use Rattle.std.proofs.Common.{sym, ap, subst, ◌∙◌, inl, inr, arith, length-append, length-drop, length-take-le, take-append-drop, drop_of_length-le}
use Rattle.std.proofs.Common.{get_or-take, get_or-drop, drop-drop, take-take}
use Rattle.std.proofs.Math.Decide.{dec_lt}
use Rattle.std.proofs.Math.Seq.{drop-append_seam, take-length}
use Rattle.std.proofs.lemmas.List.{drop-append-le}
use Rattle.words.specs.Letters.{Letters, Smaller}
use Rattle.words.specs.Word.{ProperPrefix, StronglyLess, Less, span}
use Rattle.words.specs.Lyndon.{Lyndon}
use Rattle.words.specs.Laws.Word.{Alike, DiffersAt, strongly_less_differs, differs_strongly_less, proper_prefix_alike, alike_proper_prefix}
use Rattle.words.specs.Laws.Position.{BelowWithin, SpanLyndon, SpanLess, differs, shorter}

-- The letters of a list by position; z stands past the end.
abbrev pub letters {ℓ} : {A : Type ℓ} → A → List A → ℕ → A
letters z x i = get_or x i z

module _ {ℓ κ} {A : Type ℓ} (O : Letters {ℓ, κ} A) (z : A) (x : List A) where
  pub length-span : (i e : ℕ) → e ≤ length x → length (span i e x) ≡ e - i
  length-span i e h = length-drop i (take e x) ∙ ap (λ (m : ℕ). m - i) (length-take-le e x h)

  pub get_or-span : (i e k : ℕ) → i + k < e → get_or (span i e x) k z ≡ letters z x (i + k)
  get_or-span i e k h = get_or-drop i (take e x) k z ∙ get_or-take e x (i + k) z h

  -- Less on spans, from words to positions.
  pub less_span : (i e j f : ℕ) → e ≤ length x → f ≤ length x → i ≤ e → Less O (span i e x) (span j f x) → SpanLess O (letters z x) i e j f
  less_span i e j f he hf hi h = go h
    where
      strong : (d : ℕ) → DiffersAt O z (span i e x) (span j f x) d → SpanLess O (letters z x) i e j f
      strong d w =
          let p : i + d < e = omega (arith, length-span i e he, w.in_left) in
          let q : j + d < f = omega (arith, length-span j f hf, w.in_right) in
          differs d p q
          (λ k l. sym (get_or-span i e k (omega arith)) ∙ w.alike k l ∙ get_or-span j f k (omega arith))
          (subst (λ (c : A). Smaller O c (letters z x (j + d))) (get_or-span i e d p)
          (subst (λ (c : A). Smaller O (get_or (span i e x) d z) c) (get_or-span j f d q) w.smaller))

      prefix : (length (span i e x) < length (span j f x)) × Alike z (span i e x) (span j f x) (length (span i e x)) →
          SpanLess O (letters z x) i e j f
      prefix w =
          let m : length (span i e x) ≡ e - i = length-span i e he in
          let q : j + (e - i) < f = omega (arith, length-span j f hf, w.0, m) in
          shorter (e - i) (omega arith) q
          (λ k l. sym (get_or-span i e k (omega arith)) ∙ w.1 k (omega arith) ∙ get_or-span j f k (omega arith))

      go : StronglyLess O (span i e x) (span j f x) ⊎ ProperPrefix (span i e x) (span j f x) → SpanLess O (letters z x) i e j f
      go (inl s) = let w = strongly_less_differs O z (span i e x) (span j f x) s in strong w.0 w.1
      go (inr s) = prefix (proper_prefix_alike O z (span i e x) (span j f x) s)

  -- Less on spans, from positions to words.
  pub span_less : (i e j f : ℕ) → e ≤ length x → f ≤ length x → SpanLess O (letters z x) i e j f → Less O (span i e x) (span j f x)
  span_less i e j f he hf (differs d p q g s) =
      inl
      (differs_strongly_less O z (span i e x) (span j f x) d
      (record {
        in_left = omega (arith, length-span i e he);
        in_right = omega (arith, length-span j f hf);
        alike = λ k l. get_or-span i e k (omega arith) ∙ g k l ∙ sym (get_or-span j f k (omega arith));
        smaller =
            subst (λ (c : A). Smaller O c (get_or (span j f x) d z)) (sym (get_or-span i e d p))
            (subst (λ (c : A). Smaller O (letters z x (i + d)) c) (sym (get_or-span j f d q)) s);
      }))
  span_less i e j f he hf (shorter d p q g) =
      let m : length (span i e x) ≡ d = omega (arith, length-span i e he) in
      inr
      (alike_proper_prefix O z (span i e x) (span j f x) (omega (arith, length-span j f hf))
      (λ k l. get_or-span i e k (omega arith) ∙ g k (omega arith) ∙ sym (get_or-span j f k (omega arith))))

  pub span_split : (a k b : ℕ) → a ≤ k → k ≤ b → b ≤ length x → span a b x ≡ span a k x ++ span k b x
  span_split a k b p q r =
      let t : take k (take b x) ≡ take k x = take-take k b x q in
      let l : a ≤ length (take k (take b x)) = omega (arith, ap length t, length-take-le k x (omega arith)) in
      ap (drop a) (sym (take-append-drop k (take b x))) ∙ drop-append-le a (take k (take b x)) (drop k (take b x)) l ∙
      ap (λ (w : List A). drop a w ++ drop k (take b x)) t

  pub span_non_empty : (i e : ℕ) → e ≤ length x → i < e → ¬ (span i e x ≡ [])
  span_non_empty i e h l q = omega (arith, length-span i e h, ap length q)

  non_empty_span : (i e : ℕ) → e ≤ length x → ¬ (span i e x ≡ []) → i < e
  non_empty_span i e h m = go (dec_lt i e)
    where
      go : Dec (i < e) → i < e
      go (yes l) = l
      go (no l) = absurd (m (drop_of_length-le (take e x) {i = i} (omega (arith, l, length-take-le e x h))))

  -- A span that is a Lyndon word is one by positions.
  pub lyndon_span : (a b : ℕ) → b ≤ length x → Lyndon O (span a b x) → SpanLyndon O (letters z x) a b
  lyndon_span a b h w =
      record {
        non_empty = non_empty_span a b h w.non_empty;
        below =
            λ k p q.
            within k p
            (less_span a b k b h h (omega arith)
            (w.smaller (span a k x) (span k b x) (span_split a k b (omega arith) (omega arith) h) (span_non_empty a k (omega arith) p)
            (span_non_empty k b h q)));
      }
    where
      within : (k : ℕ) → a < k → SpanLess O (letters z x) a b k b → BelowWithin O (letters z x) a k b
      within k l (differs d p q g s) = record { offset = d; inside = q; agree = g; smaller = s }
      within k l (shorter d p q g) = absurd (omega arith)

  -- A span that is a Lyndon word by positions is one.
  pub span_lyndon : (a b : ℕ) → b ≤ length x → SpanLyndon O (letters z x) a b → Lyndon O (span a b x)
  span_lyndon a b h w =
      record {
        non_empty = span_non_empty a b h w.non_empty;
        smaller = λ u v e m n. suffix u v e (positive u m) (positive v n);
      }
    where
      positive : (u : List A) → ¬ (u ≡ []) → 0 < length u
      positive [] m = absurd (m refl)
      positive (c ∷ u) m = omega arith

      suffix : (u v : List A) → span a b x ≡ u ++ v → 0 < length u → 0 < length v → Less O (span a b x) v
      suffix u v e p q =
          let k : ℕ = a + length u in
          let is : span k b x ≡ v = sym (drop-drop (length u) a (take b x)) ∙ ap (drop (length u)) e ∙ drop-append_seam u v in
          let l : k < b = omega (arith, length-span a b h, simp length-append at (ap length e)) in
          let g = w.below k (omega arith) l in
          subst (λ (t : List A). Less O (span a b x) t) is
          (span_less a b k b h h (differs g.offset (omega arith) g.inside g.agree g.smaller))

  -- The same of the text itself.
  pub lyndon_text : Lyndon O x → SpanLyndon O (letters z x) 0 (length x)
  lyndon_text w = lyndon_span 0 (length x) (omega arith) (subst (Lyndon O) (sym (take-length x)) w)

  pub text_lyndon : SpanLyndon O (letters z x) 0 (length x) → Lyndon O x
  text_lyndon w = subst (Lyndon O) (take-length x) (span_lyndon 0 (length x) (omega arith) w)
