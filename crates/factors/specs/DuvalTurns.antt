-- The list of Duval's scan, one factor a turn: the last scan's stretch is kept while it holds one more copy of its period.
-- Assumes nothing.
use Rattle.std.specs.Prelude.{◌≡◌, refl, Bool, true, false, List, [], ◌∷◌, ℕ, zero, suc, ◌+◌, ◌<◌, ◌≤◌, ltb, length}
use Rattle.std.proofs.Common.{sym, ap, ap₂, ◌∙◌, arith, ltb-true, ltb-false}
use Rattle.words.specs.Letters.{Letters}
use Rattle.words.specs.Decided.{Decided}
use Rattle.factors.specs.Duval.{Scanned, FactorList, scan_of, restart, listed_then, list_from, duval}
use Rattle.factors.specs.DuvalSteps.{stretch_of, WithinText, Bounded, copies_none, copies_more, restart_here, restart_later}
use Rattle.factors.specs.DuvalSteps.{scan_bounded, list_end, listed_behind, list_scan}
use Rattle.factors.specs.DuvalCount.{list_counts}

-- The scan that has read nothing.
abbrev pub unread : Scanned
unread = record { period = 1; end = 0; comparisons = 0 }

module _ {ℓ κ} {A : Type ℓ} {O : Letters {ℓ, κ} A} (D : Decided O) (z : A) (x : List A) where
  -- Where the factor at `start` lies: in the stretch of the last scan while that holds one more full copy of its period, else in that of a
  -- new scan.
  abbrev pub stretch_at : ℕ → Scanned → Scanned
  stretch_at start s = elim (ltb s.end (start + s.period)) [ true ↦ scan_of D z x start s.comparisons | false ↦ s ]

  -- What holds of both cases holds of it.
  pub stretch_cases {ι} : (P : Scanned → Type ι) (start : ℕ) (s : Scanned) →
      (s.end < start + s.period → P (scan_of D z x start s.comparisons)) → (start + s.period ≤ s.end → P s) → P (stretch_at start s)
  stretch_cases P start s f g = go (ltb s.end (start + s.period)) refl
    where
      go : (b : Bool) → ltb s.end (start + s.period) ≡ b → P (elim b [ true ↦ scan_of D z x start s.comparisons | false ↦ s ])
      go true e = f (ltb-true s.end (start + s.period) e)
      go false e = g (ltb-false s.end (start + s.period) e)

  -- The next factor ends inside the text.
  pub stretch_bounded : (start : ℕ) (s : Scanned) → start < length x → WithinText (length x) (stretch_of s) →
      Bounded (length x) start (stretch_of (stretch_at start s))
  stretch_bounded start s l k =
      stretch_cases (λ t. Bounded (length x) start (stretch_of t)) start s (λ m. scan_bounded D z x start s.comparisons l)
      (λ m. record { positive = k.positive; whole = m; inside = k.inside })

  -- The copies c, and what scans from r on list behind them.
  abbrev behind : ℕ → Scanned → List ℕ → ℕ → FactorList
  behind most s c r = listed_then c (list_from D z x most r s.comparisons)

  -- Where no full copy is left, the next scan begins.
  behind_none : (most start : ℕ) (s : Scanned) → s.end < start + s.period →
      listed_behind D z x most start s ≡ list_from D z x most start s.comparisons
  behind_none most start s l = ap₂ (behind most s) (copies_none start s l) (restart_here start s l)

  -- A full copy is listed.
  behind_copy : (most start : ℕ) (s : Scanned) → 0 < s.period → start + s.period ≤ s.end →
      listed_behind D z x most start s ≡ listed_then (start ∷ []) (listed_behind D z x most (start + s.period) s)
  behind_copy most start s some l = ap₂ (behind most s) (copies_more start s some l) (restart_later start s some l)

  -- The factors before `start` are listed, and the last scan has stopped with s: l is what is listed from `start` on, and the comparisons of
  -- the whole scan. So many scans are enough.
  pub record Remaining (start : ℕ) (s : Scanned) (l : FactorList) : Type 0 where
    pub most : ℕ
    pub enough : length x ≤ most + start
    pub listed : listed_behind D z x most start s ≡ l

  -- At the start no letter is read.
  pub remaining_all : Remaining 0 unread (duval D z x)
  remaining_all =
      record {
        most = length x;
        enough = omega arith;
        listed = behind_none (length x) 0 unread (omega arith);
      }

  -- The factor at `start` is listed: l is that factor and then `rest`.
  pub record OneListed (start : ℕ) (t : Scanned) (l : FactorList) : Type 0 where
    pub rest : FactorList
    pub first : l ≡ listed_then (start ∷ []) rest
    pub remaining : Remaining (start + t.period) t rest

  -- It is a copy of the period.
  copy_listed : (most start : ℕ) (s : Scanned) (l : FactorList) → 0 < s.period → start + s.period ≤ s.end → length x ≤ most + (start + s.period) →
      l ≡ listed_behind D z x most start s → OneListed start s l
  copy_listed most start s l some h k e =
      record {
        rest = listed_behind D z x most (start + s.period) s;
        first = e ∙ behind_copy most start s some h;
        remaining = record { most = most; enough = k; listed = refl };
      }

  -- One factor is listed, from the last scan or a new one.
  pub remaining_step : (start : ℕ) (s : Scanned) (l : FactorList) → start < length x → WithinText (length x) (stretch_of s) → Remaining start s l →
      OneListed start (stretch_at start s) l
  remaining_step start s l q k w =
      stretch_cases (λ t. OneListed start t l) start s (λ m. scanned m w.most w.enough (sym w.listed))
      (λ m. copy_listed w.most start s l k.positive m (omega (arith, w.enough)) (sym w.listed))
    where
      t : Scanned
      t = scan_of D z x start s.comparisons

      scanned : s.end < start + s.period → (most : ℕ) → length x ≤ most + start → l ≡ listed_behind D z x most start s → OneListed start t l
      scanned m zero f e = absurd (omega arith)
      scanned m (suc most) f e =
          let b : Bounded (length x) start (stretch_of t) = scan_bounded D z x start s.comparisons q in
          copy_listed most start t l b.positive b.whole (omega (arith, b.positive))
          (e ∙ behind_none (suc most) start s m ∙ list_scan D z x most start s.comparisons q)

  -- Behind the text nothing is left to list or to ask.
  pub remaining_none : (start : ℕ) (s : Scanned) (l : FactorList) → length x ≤ start → WithinText (length x) (stretch_of s) → Remaining start s l →
      l ≡ record { factors = []; comparisons = s.comparisons }
  remaining_none start s l q k w =
      sym w.listed ∙ behind_none w.most start s (omega (arith, k.positive, k.inside)) ∙ list_end D z x w.most start s.comparisons q

  -- The comparisons made up to now are some of all.
  pub remaining_counts : (start : ℕ) (s : Scanned) (l : FactorList) → Remaining start s l → s.comparisons ≤ l.comparisons
  remaining_counts start s l w =
      let some : s.comparisons ≤ (listed_behind D z x w.most start s).comparisons = list_counts D z x w.most (restart start s) s.comparisons in
      omega (arith, some, ap (λ (r : FactorList). r.comparisons) w.listed)
