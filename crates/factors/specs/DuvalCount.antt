-- How many letter comparisons Duval's scan makes: fewer than twice the letters of the text (document 02, E7).
-- Assumes nothing.
use Rattle.std.specs.Prelude.{◌≡◌, List, ℕ, zero, suc, ◌+◌, ◌-◌, ◌*◌, ◌<◌, ◌≤◌, length}
use Rattle.std.proofs.Common.{sym, ap, subst, arith}
use Rattle.std.proofs.Math.Decide.{dec_lt}
use Rattle.words.specs.Letters.{Letters}
use Rattle.words.specs.Decided.{Decided}
use Rattle.factors.specs.declared.scan.Stretch.{Stretch}
use Rattle.factors.specs.Duval.{Scanned, FactorList, scan_of, restart, list_from, duval}
use Rattle.factors.specs.DuvalSteps.{stretch_of, counted, comparisons_of, Bounded, restart_here, restart_later, scan_steps, scan_bounded, list_end, list_scan}

-- A scan from `start`, begun after q comparisons, has stopped with s: it asked once about each letter behind the first, up to the one that
-- stopped it or up to the end of the text of n letters.
pub data Asked (n start q : ℕ) (s : Scanned) : Type 0 where
  at_letter : s.end < n → s.comparisons + start ≡ q + s.end → Asked n start q s
  at_end : s.end ≡ n → s.comparisons + suc start ≡ q + s.end → Asked n start q s

-- The copies of the period from `start` on end at r: not one more has room.
pub record Reached (start : ℕ) (s : Scanned) (r : ℕ) : Type 0 where
  pub behind : start ≤ r
  pub inside : r ≤ s.end
  pub short : s.end < r + s.period

pub restart_reached : (most start : ℕ) (s : Scanned) → 0 < s.period → start ≤ s.end → s.end ≤ most + start → Reached start s (restart start s)
restart_reached zero start s a b c =
    rw (restart_here start s (omega arith)) (record { behind = omega arith; inside = b; short = omega arith })
restart_reached (suc most) start s a b c = go (dec_lt s.end (start + s.period)) (restart_reached most (start + s.period) s a)
  where
    go : Dec (s.end < start + s.period) →
        (start + s.period ≤ s.end → s.end ≤ most + (start + s.period) → Reached (start + s.period) s (restart (start + s.period) s)) →
        Reached start s (restart start s)
    go (yes l) rest = rw (restart_here start s l) (record { behind = omega arith; inside = b; short = l })
    go (no l) rest =
        let k : start + s.period ≤ s.end = omega arith in
        let w = rest k (omega arith) in
        rw (restart_later start s a k) (record { behind = omega (arith, w.behind); inside = w.inside; short = w.short })

-- Where one copy has room, they end behind it.
restart_behind : (start : ℕ) (s : Scanned) → 0 < s.period → start + s.period ≤ s.end → start + s.period ≤ restart start s
restart_behind start s a b =
    rw (restart_later start s a b) (restart_reached s.end (start + s.period) s a b (omega arith)).behind

module _ {ℓ κ} {A : Type ℓ} {O : Letters {ℓ, κ} A} (D : Decided O) (z : A) (x : List A) where
  -- What a scan asks.
  pub scan_asked : (start q : ℕ) → start < length x → Asked (length x) start q (scan_of D z x start q)
  scan_asked start q l =
      scan_steps D z x start (λ p j r. r + suc start ≡ q + j) (λ s. Asked (length x) start q s)
      (record {
        on_same = λ p j r l c i. omega arith;
        on_above = λ p j r l c i. omega arith;
        on_below = λ p j r l c i. at_letter l (omega arith);
        on_end = λ p j r l i. at_end l i;
      }) q l (omega arith)

  -- The comparisons of a scan follow from where it stopped.
  pub scan_counted : (start q : ℕ) → start < length x → (t : Stretch) → t ≡ stretch_of (scan_of D z x start q) →
      counted t (q + comparisons_of (length x) start t) ≡ scan_of D z x start q
  scan_counted start q l t e = rw e (ap (counted (stretch_of s)) (told (scan_asked start q l) (scan_bounded D z x start q l)))
    where
      s : Scanned
      s = scan_of D z x start q

      told : Asked (length x) start q s → Bounded (length x) start (stretch_of s) → q + comparisons_of (length x) start (stretch_of s) ≡ s.comparisons
      told (at_letter a b) k = omega (arith, k)
      told (at_end a b) k = omega (arith, k)

  -- Comparisons are added, never taken away.
  pub list_counts : (most start q : ℕ) → q ≤ (list_from D z x most start q).comparisons
  list_counts zero start q = omega arith
  list_counts (suc most) start q = go (dec_lt start (length x)) (list_counts most)
    where
      s : Scanned
      s = scan_of D z x start q

      more : Asked (length x) start q s → Bounded (length x) start (stretch_of s) → q ≤ s.comparisons
      more (at_letter a b) k = omega (arith, k)
      more (at_end a b) k = omega (arith, k)

      go : Dec (start < length x) → ((start q : ℕ) → q ≤ (list_from D z x most start q).comparisons) → q ≤ (list_from D z x (suc most) start q).comparisons
      go (no l) rest = rw (list_end D z x (suc most) start q (omega arith)) (omega arith)
      go (yes l) rest =
          rw (list_scan D z x most start q l)
          (omega (arith, more (scan_asked start q l) (scan_bounded D z x start q l), rest (restart start s) s.comparisons))

  -- Where a scan from a position k > 0 begins there were at most 2 × k − 1 comparisons, by document 000's argument (Proposition 10): a scan
  -- from h that is at j has asked less than h + j times.
  list_from_few : (most start q : ℕ) → start < length x → length x ≤ most + start → q ≤ 2 * start - 1 →
      (list_from D z x most start q).comparisons ≤ 2 * length x - 3
  list_from_few zero start q l a b = absurd (omega arith)
  list_from_few (suc most) start q l a b =
      subst (λ (f : FactorList). f.comparisons ≤ 2 * length x - 3) (sym (list_scan D z x most start q l))
      (go (scan_asked start q l) (dec_lt (restart start s) (length x)) (list_from_few most (restart start s) s.comparisons))
    where
      s : Scanned
      s = scan_of D z x start q

      k : Bounded (length x) start (stretch_of s)
      k = scan_bounded D z x start q l

      r : Reached start s (restart start s)
      r = restart_reached s.end start s k.positive (omega (arith, k.whole)) (omega arith)

      whole : start + s.period ≤ restart start s
      whole = restart_behind start s k.positive k.whole

      go : Asked (length x) start q s → Dec (restart start s < length x) →
          (restart start s < length x → length x ≤ most + restart start s → s.comparisons ≤ 2 * restart start s - 1 →
          (list_from D z x most (restart start s) s.comparisons).comparisons ≤ 2 * length x - 3) →
          (list_from D z x most (restart start s) s.comparisons).comparisons ≤ 2 * length x - 3
      go (at_letter c d) (yes m) rest = rest m (omega (arith, whole, k)) (omega (arith, r, whole))
      go (at_end c d) (yes m) rest = rest m (omega (arith, whole, k)) (omega (arith, r, whole))
      go (at_letter c d) (no m) rest = absurd (omega (arith, r))
      go (at_end c d) (no m) rest = rw (list_end D z x most (restart start s) s.comparisons (omega arith)) (omega arith)

  few : 1 ≤ length x → (duval D z x).comparisons ≤ 2 * length x - 3
  few some = list_from_few (length x) 0 0 (omega arith) (omega arith) (omega arith)

  -- One letter takes no comparison.
  pub duval_one : length x ≡ 1 → (duval D z x).comparisons ≡ 0
  duval_one e = omega (arith, few (omega arith))

  -- A text of n letters, n ≥ 2, takes at most 2 × n − 3.
  pub duval_more : 2 ≤ length x → (duval D z x).comparisons + 3 ≤ 2 * length x
  duval_more l = omega (arith, few (omega arith))

  -- So a text of n letters, n ≥ 1, takes at most 2 × n − 2.
  pub duval_at_most : 1 ≤ length x → (duval D z x).comparisons + 2 ≤ 2 * length x
  duval_at_most some = omega (arith, few some)

  -- "below 2 × n for every text of n letters".
  pub duval_below : 1 ≤ length x → (duval D z x).comparisons < 2 * length x
  duval_below some = omega (arith, duval_at_most some)
