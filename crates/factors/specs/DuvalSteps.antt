-- The steps of Duval's scan, one by one, and its bounds.
-- Assumes nothing.
use Rattle.std.specs.Prelude.{◌≡◌, refl, Bool, true, false, List, [], ◌∷◌, ℕ, zero, suc, ◌+◌, ◌-◌, ◌*◌, ◌<◌, ◌≤◌, min, ltb, length, get_or}
use Rattle.std.proofs.Common.{sym, ap, ◌∙◌, arith, zero-mul, suc-mul, lt-ltb, le-ltb}
use Rattle.words.specs.Letters.{Letters}
use Rattle.words.specs.Decided.{Decided, Comparison, below, same, above}
use Rattle.factors.specs.declared.scan.Stretch.{Stretch}
use Rattle.factors.specs.Duval.{Scanned, FactorList, scan_from, scan_of, copies_from, copies, restart, listed_then, list_from}

-- The stretch that a scan found.
abbrev pub stretch_of : Scanned → Stretch
stretch_of s = record { period = s.period; end = s.end }

-- The same, with the comparisons made by then.
abbrev pub counted : Stretch → ℕ → Scanned
counted s q = record { period = s.period; end = s.end; comparisons = q }

-- The comparisons of the scan from `start` that found it in a text of n letters: one for each letter behind the first, up to the one that stopped it.
abbrev pub comparisons_of : ℕ → ℕ → Stretch → ℕ
comparisons_of n start s = min s.end (n - 1) - start

-- A stretch from `start`: a period that is not empty, one copy of it, and an end inside a text of n letters.
pub record Bounded (n start : ℕ) (s : Stretch) : Type 0 where
  pub positive : 0 < s.period
  pub whole : start + s.period ≤ s.end
  pub inside : s.end ≤ n

-- A stretch of a text of n letters whose copies may all be listed.
pub record WithinText (n : ℕ) (s : Stretch) : Type 0 where
  pub positive : 0 < s.period
  pub inside : s.end ≤ n

pub one_more : (k : ℕ) → suc k ≡ k + 1
one_more k = omega arith

-- The copies of a period, one by one.
module _ (start : ℕ) (s : Scanned) where
  -- Not one has room.
  pub copies_none : s.end < start + s.period → copies start s ≡ []
  copies_none l = go s.end
    where
      go : (most : ℕ) → copies_from most start s.period s.end ≡ []
      go zero = refl
      go (suc most) = rw (copies_from, lt-ltb s.end (start + s.period) l)

  -- One has, and the others stand behind it.
  pub copies_more : 0 < s.period → start + s.period ≤ s.end → copies start s ≡ start ∷ copies (start + s.period) s
  copies_more some l = go s.end (omega arith)
    where
      -- One more than enough changes nothing.
      enough : (most at : ℕ) → s.end ≤ most + at → copies_from most at s.period s.end ≡ copies_from (suc most) at s.period s.end
      enough zero at h = sym (rw (copies_from, lt-ltb s.end (at + s.period) (omega (arith, some))))
      enough (suc most) at h = go' (ltb s.end (at + s.period)) refl (enough most (at + s.period))
        where
          go' : (b : Bool) → ltb s.end (at + s.period) ≡ b →
              (s.end ≤ most + (at + s.period) →
              copies_from most (at + s.period) s.period s.end ≡ copies_from (suc most) (at + s.period) s.period s.end) →
              copies_from (suc most) at s.period s.end ≡ copies_from (suc (suc most)) at s.period s.end
          go' true e rest = rw (copies_from, e)
          go' false e rest = rw (copies_from, e, rest (omega (arith, some)))

      go : (most : ℕ) → s.end ≤ most →
          copies_from most start s.period s.end ≡ start ∷ copies_from most (start + s.period) s.period s.end
      go zero h = absurd (omega (arith, some))
      go (suc most) h =
          rw (copies_from, le-ltb s.end (start + s.period) l) (ap (λ (c : List ℕ). start ∷ c) (enough most (start + s.period) (omega (arith, some))))

  -- Where the next scan begins then.
  pub restart_here : s.end < start + s.period → restart start s ≡ start
  restart_here l =
      ap (λ (c : List ℕ). start + length c * s.period) (copies_none l) ∙ omega (arith, zero-mul s.period)

  pub restart_later : 0 < s.period → start + s.period ≤ s.end → restart start s ≡ restart (start + s.period) s
  restart_later some l =
      ap (λ (c : List ℕ). start + length c * s.period) (copies_more some l) ∙
      omega (arith, suc-mul (length (copies (start + s.period) s)) s.period)

module _ {ℓ κ} {A : Type ℓ} {O : Letters {ℓ, κ} A} (D : Decided O) (z : A) (x : List A) where
  -- The answer of the comparison at position j, with period p.
  abbrev pub answer_at : ℕ → ℕ → Comparison
  answer_at p j = D.compare (get_or x j z) (get_or x (j - p) z)

  -- The end of the text stops the scan, and nothing is asked.
  pub scan_end : (start p j q : ℕ) → length x ≤ j → scan_from D z x (length x - j) start p j q ≡ record { period = p; end = j; comparisons = q }
  scan_end start p j q l = let e : length x - j ≡ 0 = omega arith in rw e

  -- A question is asked.
  module _ (start p j q : ℕ) (l : j < length x) where
    left : length x - j ≡ suc (length x - (j + 1))
    left = omega arith

    pub scan_below : answer_at p j ≡ below → scan_from D z x (length x - j) start p j q ≡ record { period = p; end = j; comparisons = q + 1 }
    scan_below c = rw (left, scan_from, c, one_more q)

    pub scan_same : answer_at p j ≡ same →
        scan_from D z x (length x - j) start p j q ≡ scan_from D z x (length x - (j + 1)) start p (j + 1) (q + 1)
    scan_same c = rw (left, scan_from, c, one_more j, one_more q)

    pub scan_above : answer_at p j ≡ above →
        scan_from D z x (length x - j) start p j q ≡ scan_from D z x (length x - (j + 1)) start (j + 1 - start) (j + 1) (q + 1)
    scan_above c = rw (left, scan_from, c, one_more j, one_more q)

  -- What holds of a scan where it begins, and is kept by each step that goes on, holds where it stops.
  pub record Steps {ι} (start : ℕ) (I : ℕ → ℕ → ℕ → Type ι) (Q : Scanned → Type ι) : Type ι where
    pub on_same : (p j q : ℕ) → j < length x → answer_at p j ≡ same → I p j q → I p (suc j) (suc q)
    pub on_above : (p j q : ℕ) → j < length x → answer_at p j ≡ above → I p j q → I (suc j - start) (suc j) (suc q)
    pub on_below : (p j q : ℕ) → j < length x → answer_at p j ≡ below → I p j q → Q (record { period = p; end = j; comparisons = suc q })
    pub on_end : (p j q : ℕ) → j ≡ length x → I p j q → Q (record { period = p; end = j; comparisons = q })

  module _ {ι} (start : ℕ) (I : ℕ → ℕ → ℕ → Type ι) (Q : Scanned → Type ι) (w : Steps start I Q) where
    scan_from_steps : (left p j q : ℕ) → j + left ≡ length x → I p j q → Q (scan_from D z x left start p j q)
    scan_from_steps zero p j q e i = w.on_end p j q (omega arith) i
    scan_from_steps (suc left) p j q e i = go (answer_at p j) refl (scan_from_steps left)
      where
        l : j < length x
        l = omega arith

        go : (c : Comparison) → answer_at p j ≡ c → ((p j q : ℕ) → j + left ≡ length x → I p j q → Q (scan_from D z x left start p j q)) →
            Q
            (elim c [
              | below ↦ record { period = p; end = j; comparisons = suc q }
              | same ↦ scan_from D z x left start p (suc j) (suc q)
              | above ↦ scan_from D z x left start (suc j - start) (suc j) (suc q)
            ])
        go below c rest = w.on_below p j q l c i
        go same c rest = rest p (suc j) (suc q) (omega arith) (w.on_same p j q l c i)
        go above c rest = rest (suc j - start) (suc j) (suc q) (omega arith) (w.on_above p j q l c i)

    pub scan_steps : (q : ℕ) → start < length x → I 1 (suc start) q → Q (scan_of D z x start q)
    scan_steps q l i = scan_from_steps (length x - suc start) 1 (suc start) q (omega arith) i

  -- What a scan from inside the text finds is inside the text.
  pub scan_bounded : (start q : ℕ) → start < length x → Bounded (length x) start (stretch_of (scan_of D z x start q))
  scan_bounded start q l =
      scan_steps start (λ p j q. (0 < p) × (start + p ≤ j)) (λ s. Bounded (length x) start (stretch_of s))
      (record {
        on_same = λ p j q l c i. (i.0, omega (arith, i.1));
        on_above = λ p j q l c i. (omega (arith, i), omega (arith, i));
        on_below = λ p j q l c i. record { positive = i.0; whole = i.1; inside = omega arith };
        on_end = λ p j q l i. record { positive = i.0; whole = i.1; inside = omega arith };
      }) q l (omega arith, omega arith)

  -- Behind the end of the text nothing is listed or asked.
  pub list_end : (most start q : ℕ) → length x ≤ start → list_from D z x most start q ≡ record { factors = []; comparisons = q }
  list_end zero start q l = refl
  list_end (suc most) start q l = rw (list_from, le-ltb start (length x) l)

  -- What is listed from `start` on where the last scan has stopped with s: the copies of its period, and what further scans list.
  abbrev pub listed_behind : (most start : ℕ) → Scanned → FactorList
  listed_behind most start s = listed_then (copies start s) (list_from D z x most (restart start s) s.comparisons)

  -- Inside the text a scan is made, and what it stopped with is listed.
  pub list_scan : (most start q : ℕ) → start < length x →
      list_from D z x (suc most) start q ≡ listed_behind most start (scan_of D z x start q)
  list_scan most start q l = rw (list_from, lt-ltb start (length x) l)
