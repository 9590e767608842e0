-- Lists of different elements: none longer than a list that holds its elements, and none rearranged into one that repeats.
-- Assumes nothing.
use Rattle.std.specs.Prelude.{◌≡◌, refl, ◌⊎◌, ℕ, zero, suc, ◌<◌, ◌≤◌, length}
use Rattle.std.proofs.Common.{sym, ap, subst, ◌∙◌, inl, inr, arith}
use mathlib.Core.List.Memᴰ
use mathlib.Core.List.{List, [], ◌∷◌, ◌++◌, Memᴰ}
use Rattle.std.proofs.Math.Decide.{ℕ_discrete}
use Rattle.words.specs.Different.{Different}

module _ {ℓ} {B : Type ℓ} where
  -- Lists of different elements with none in common, joined.
  pub different_append : (bs cs : List B) → Different bs → Different cs → ((b : B) → Memᴰ b bs → ¬ Memᴰ b cs) → Different (bs ++ cs)
  different_append [] cs h k g = k
  different_append (b ∷ bs) cs h k g = (
    λ m. go (Memᴰ.append_cases bs m),
    different_append bs cs h.1 k (λ c m. g c (Memᴰ.tail m)),
  )
    where
      go : Memᴰ b bs ⊎ Memᴰ b cs → ⊥
      go (inl m) = h.0 m
      go (inr m) = g b (Memᴰ.head refl) m

  -- One more element at the end.
  pub different_snoc : (bs : List B) (b : B) → Different bs → ¬ Memᴰ b bs → Different (bs ++ (b ∷ []))
  different_snoc bs b h n =
      different_append bs (b ∷ []) h (λ m. Memᴰ.not-nil m, tt) (λ c m k. n (Memᴰ.cast (sym (Memᴰ.eq_of_singleton k)) m))

  -- A list with one place of b taken away.
  pub record Without (b : B) (cs : List B) : Type ℓ where
    pub rest : List B
    pub shorter : length cs ≡ suc (length rest)
    pub others : (c : B) → Memᴰ c cs → (c ≡ b) ⊎ Memᴰ c rest
    pub kept : (c : B) → Memᴰ c rest → Memᴰ c cs
    pub different : Different cs → (¬ Memᴰ b rest) × Different rest

  pub without : (b : B) (cs : List B) → Memᴰ b cs → Without b cs
  without b [] m = absurd (Memᴰ.not-nil m)
  without b (c ∷ cs) m = go (λ k. without b cs k) (Memᴰ.cases_cons m)
    where
      here : b ≡ c → (d : B) → (d ≡ c) ⊎ Memᴰ d cs → (d ≡ b) ⊎ Memᴰ d cs
      here e d (inl k) = inl (k ∙ sym e)
      here e d (inr k) = inr k

      go : (Memᴰ b cs → Without b cs) → (b ≡ c) ⊎ Memᴰ b cs → Without b (c ∷ cs)
      go w (inl e) =
          record {
            rest = cs;
            shorter = refl;
            others = λ d k. here e d (Memᴰ.cases_cons k);
            kept = λ d k. Memᴰ.tail k;
            different = λ h. (λ k. h.0 (Memᴰ.cast (sym e) k), h.1);
          }
      go w (inr k) =
          let v : Without b cs = w k in
          record {
            rest = c ∷ v.rest;
            shorter = ap suc v.shorter;
            others = λ d l. later v d (Memᴰ.cases_cons l);
            kept = λ d l. back v d (Memᴰ.cases_cons l);
            different =
                λ h. (
                  λ l. apart v h (Memᴰ.cases_cons l),
                  (λ l. h.0 (v.kept c l), (v.different h.1).1),
                );
          }
        where
          later : (v : Without b cs) (d : B) → (d ≡ c) ⊎ Memᴰ d cs → (d ≡ b) ⊎ Memᴰ d (c ∷ v.rest)
          later v d (inl e) = inr (Memᴰ.head e)
          later v d (inr l) = step (v.others d l)
            where
              step : (d ≡ b) ⊎ Memᴰ d v.rest → (d ≡ b) ⊎ Memᴰ d (c ∷ v.rest)
              step (inl e) = inl e
              step (inr q) = inr (Memᴰ.tail q)

          back : (v : Without b cs) (d : B) → (d ≡ c) ⊎ Memᴰ d v.rest → Memᴰ d (c ∷ cs)
          back v d (inl e) = Memᴰ.head e
          back v d (inr l) = Memᴰ.tail (v.kept d l)

          apart : (v : Without b cs) → Different (c ∷ cs) → (b ≡ c) ⊎ Memᴰ b v.rest → ⊥
          apart v h (inl e) = h.0 (Memᴰ.cast (sym e) k)
          apart v h (inr l) = (v.different h.1).0 l

  -- Different elements of another list are no more than it holds.
  pub different_fits : (bs cs : List B) → Different bs → ((b : B) → Memᴰ b bs → Memᴰ b cs) → length bs ≤ length cs
  different_fits [] cs h g = omega arith
  different_fits (b ∷ bs) cs h g =
      let w : Without b cs = without b cs (g b (Memᴰ.head refl)) in
      let l : length bs ≤ length w.rest = different_fits bs w.rest h.1 (λ c m. still w c m (w.others c (g c (Memᴰ.tail m)))) in
      omega (arith, w.shorter)
    where
      still : (w : Without b cs) (c : B) → Memᴰ c bs → (c ≡ b) ⊎ Memᴰ c w.rest → Memᴰ c w.rest
      still w c m (inl e) = absurd (h.0 (Memᴰ.cast (sym e) m))
      still w c m (inr k) = k

  -- A list of the same length with the same elements as a list of different elements is one too.
  pub different_rearranged : (cs bs : List B) → Different bs → ((b : B) → Memᴰ b bs → Memᴰ b cs) →
      ((b : B) → Memᴰ b cs → Memᴰ b bs) → length cs ≤ length bs → Different cs
  different_rearranged [] bs h f g l = tt
  different_rearranged (c ∷ cs) bs h f g l =
      let w : Without c bs = without c bs (g c (Memᴰ.head refl)) in (
        once,
        different_rearranged cs w.rest (w.different h).1
            (λ b m. forth w b m (Memᴰ.cases_cons (f b (w.kept b m))))
            (λ b m. back w b m (w.others b (g b (Memᴰ.tail m))))
            (omega (arith, w.shorter)),
      )
    where
      into : Memᴰ c cs → (b : B) → (b ≡ c) ⊎ Memᴰ b cs → Memᴰ b cs
      into m b (inl e) = Memᴰ.cast e m
      into m b (inr k) = k

      once : ¬ Memᴰ c cs
      once m = omega (arith, different_fits bs cs h (λ b k. into m b (Memᴰ.cases_cons (f b k))))

      forth : (w : Without c bs) (b : B) → Memᴰ b w.rest → (b ≡ c) ⊎ Memᴰ b cs → Memᴰ b cs
      forth w b m (inl e) = absurd ((w.different h).0 (Memᴰ.cast (sym e) m))
      forth w b m (inr k) = k

      back : (w : Without c bs) (b : B) → Memᴰ b cs → (b ≡ c) ⊎ Memᴰ b w.rest → Memᴰ b w.rest
      back w b m (inl e) = absurd (once (Memᴰ.cast (sym e) m))
      back w b m (inr k) = k

-- The numbers below m, downwards.
abbrev pub numbers_below : ℕ → List ℕ
numbers_below zero = []
numbers_below (suc m) = m ∷ numbers_below m

pub numbers_below-length : (m : ℕ) → length (numbers_below m) ≡ m
numbers_below-length zero = refl
numbers_below-length (suc m) = ap suc (numbers_below-length m)

pub numbers_below_holds : (m k : ℕ) → k < m → Memᴰ k (numbers_below m)
numbers_below_holds zero k l = absurd (omega arith)
numbers_below_holds (suc m) k l = go (numbers_below_holds m k) (ℕ_discrete k m)
  where
    go : (k < m → Memᴰ k (numbers_below m)) → Dec (k ≡ m) → Memᴰ k (m ∷ numbers_below m)
    go f (yes e) = Memᴰ.head e
    go f (no e) = Memᴰ.tail (f (omega arith))

pub numbers_below_below : (m k : ℕ) → Memᴰ k (numbers_below m) → k < m
numbers_below_below zero k l = absurd (Memᴰ.not-nil l)
numbers_below_below (suc m) k l = go (numbers_below_below m k) (Memᴰ.cases_cons l)
  where
    go : (Memᴰ k (numbers_below m) → k < m) → (k ≡ m) ⊎ Memᴰ k (numbers_below m) → k < suc m
    go f (inl e) = omega arith
    go f (inr h) = omega (arith, f h)

pub numbers_below_different : (m : ℕ) → Different (numbers_below m)
numbers_below_different zero = tt
numbers_below_different (suc m) = (λ l. omega (arith, numbers_below_below m m l), numbers_below_different m)

module _ {ℓ κ} {B : Type ℓ} (Mark : B → ℕ → Type κ) (one : (b c : B) (k : ℕ) → Mark b k → Mark c k → b ≡ c) where
  abbrev mark_list : (bs : List B) → ((b : B) → Memᴰ b bs → (k : ℕ) × Mark b k) → List ℕ
  mark_list [] f = []
  mark_list (b ∷ bs) f = (f b (Memᴰ.head refl)).0 ∷ mark_list bs (λ c m. f c (Memᴰ.tail m))

  mark_list-length : (bs : List B) (f : (b : B) → Memᴰ b bs → (k : ℕ) × Mark b k) → length (mark_list bs f) ≡ length bs
  mark_list-length [] f = refl
  mark_list-length (b ∷ bs) f = ap suc (mark_list-length bs (λ c m. f c (Memᴰ.tail m)))

  -- A mark in the list is the mark of an element.
  mark_list_of : (bs : List B) (f : (b : B) → Memᴰ b bs → (k : ℕ) × Mark b k) (k : ℕ) → Memᴰ k (mark_list bs f) →
      (b : B) × Memᴰ b bs × Mark b k
  mark_list_of [] f k m = absurd (Memᴰ.not-nil m)
  mark_list_of (b ∷ bs) f k m = go (mark_list_of bs (λ c l. f c (Memᴰ.tail l)) k) (Memᴰ.cases_cons m)
    where
      go : (Memᴰ k (mark_list bs (λ c l. f c (Memᴰ.tail l))) → (c : B) × Memᴰ c bs × Mark c k) →
          (k ≡ (f b (Memᴰ.head refl)).0) ⊎ Memᴰ k (mark_list bs (λ c l. f c (Memᴰ.tail l))) → (c : B) × Memᴰ c (b ∷ bs) × Mark c k
      go rest (inl e) = (b, Memᴰ.head refl, subst (λ (j : ℕ). Mark b j) (sym e) (f b (Memᴰ.head refl)).1)
      go rest (inr l) = let w = rest l in (w.0, Memᴰ.tail w.1, w.2)

  mark_list_different : (bs : List B) (f : (b : B) → Memᴰ b bs → (k : ℕ) × Mark b k) → Different bs → Different (mark_list bs f)
  mark_list_different [] f h = tt
  mark_list_different (b ∷ bs) f h = (
    λ m.
        let w = mark_list_of bs (λ c l. f c (Memᴰ.tail l)) (f b (Memᴰ.head refl)).0 m in
        h.0 (Memᴰ.cast (one b w.0 (f b (Memᴰ.head refl)).0 (f b (Memᴰ.head refl)).1 w.2) w.1),
    mark_list_different bs (λ c m. f c (Memᴰ.tail m)) h.1,
  )

  -- Different elements that have each a mark of its own among the numbers from 1 up to and without n are fewer than n.
  pub marked_fewer : (n : ℕ) → 0 < n → ((b : B) (k : ℕ) → Mark b k → (0 < k) × (k < n)) → (bs : List B) → Different bs →
      ((b : B) → Memᴰ b bs → (k : ℕ) × Mark b k) → length bs < n
  marked_fewer n pos range bs h f =
      let l : length (0 ∷ mark_list bs f) ≤ length (numbers_below n) =
      different_fits (0 ∷ mark_list bs f) (numbers_below n) (zero_apart, mark_list_different bs f h) (λ k m. low k (Memᴰ.cases_cons m)) in
      omega (arith, numbers_below-length n, mark_list-length bs f)
    where
      zero_apart : ¬ Memᴰ 0 (mark_list bs f)
      zero_apart m = let w = mark_list_of bs f 0 m in omega (arith, (range w.0 0 w.2).0)

      low : (k : ℕ) → (k ≡ 0) ⊎ Memᴰ k (mark_list bs f) → Memᴰ k (numbers_below n)
      low k (inl e) = numbers_below_holds n k (omega arith)
      low k (inr m) = let w = mark_list_of bs f k m in numbers_below_holds n k (range w.0 k w.2).1
