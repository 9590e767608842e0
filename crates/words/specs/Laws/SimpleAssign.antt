-- The text written for a valid array is the one that document 003's Figure 1 assigns: it sorts the positions by falling ends of their
-- spans, positions with one end from left to right, and gives each position its place in that order as its letter.
-- Assumes nothing.
use Rattle.std.specs.Prelude.{◌≡◌, refl, Bool, true, false, ◌&&◌, ◌||◌, List, ℕ, zero, suc, ◌+◌, ◌-◌, ◌<◌, ◌≤◌, length, ltb, eqb}
use Rattle.std.proofs.Common.{sym, ap, ◌∙◌, arith, zero-add, ext_get_or, lt-ltb, le-ltb, eq-eqb, ne_eqb}
use Rattle.std.proofs.Math.Decide.{dec_lt, ℕ_discrete}
use Rattle.words.specs.Tabulate.{tabulate}
use Rattle.words.specs.ValidArray.{Valid, one, holding, letter_for, text_for}
use Rattle.words.specs.ArrayForest.{end_of}
use Rattle.words.specs.Laws.Tabulate.{length-tabulate, get_or-tabulate}

-- Position k comes before i in that order: its span ends later, or at the same place and it stands further left.
abbrev pub sorts_before : List ℕ → ℕ → ℕ → Bool
sorts_before a k i = ltb (end_of a i) (end_of a k) || (eqb (end_of a k) (end_of a i) && ltb k i)

-- The number of positions below m that come before i.
abbrev pub place_among : List ℕ → ℕ → ℕ → ℕ
place_among a i zero = 0
place_among a i (suc m) = place_among a i m + one (sorts_before a m i)

module _ (a : List ℕ) (v : Valid a) (i : ℕ) (l : i < length a) where
  sorts_later : (k : ℕ) → end_of a i < end_of a k → sorts_before a k i ≡ true
  sorts_later k h = simp (lt-ltb (end_of a i) (end_of a k) h)

  sorts_equal : (k : ℕ) → end_of a k ≡ end_of a i → k < i → sorts_before a k i ≡ true
  sorts_equal k e h = simp (le-ltb (end_of a i) (end_of a k) (omega arith), eq-eqb (end_of a k) (end_of a i) e, lt-ltb k i h)

  sorts_not : (k : ℕ) → end_of a k ≤ end_of a i → ((end_of a k ≡ end_of a i) → i ≤ k) → sorts_before a k i ≡ false
  sorts_not k h n = go (ℕ_discrete (end_of a k) (end_of a i))
    where
      go : Dec (end_of a k ≡ end_of a i) → sorts_before a k i ≡ false
      go (yes e) = simp (le-ltb (end_of a i) (end_of a k) h, eq-eqb (end_of a k) (end_of a i) e, le-ltb k i (n e))
      go (no d) = simp (le-ltb (end_of a i) (end_of a k) h, ne_eqb (end_of a k) (end_of a i) d)

  -- An earlier position comes before i exactly when its span holds i.
  earlier_held : (k : ℕ) → k < i → sorts_before a k i ≡ ltb i (end_of a k)
  earlier_held k h = go (dec_lt i (end_of a k)) (dec_lt (end_of a i) (end_of a k))
    where
      go : Dec (i < end_of a k) → Dec (end_of a i < end_of a k) → sorts_before a k i ≡ ltb i (end_of a k)
      go (yes p) (yes q) = sorts_later k q ∙ sym (lt-ltb i (end_of a k) p)
      go (yes p) (no q) =
          let n : ¬ (end_of a k < end_of a i) = λ w. v.nested i l (record { earlier = k; before = h; holds = p; past = w }) in
          sorts_equal k (omega (arith, q, n)) h ∙ sym (lt-ltb i (end_of a k) p)
      go (no p) q =
          sorts_not k (omega (arith, p)) (λ e. absurd (omega (arith, p, (v.in_range i l).positive))) ∙ sym (le-ltb i (end_of a k) (omega (arith, p)))

  among_earlier : (m : ℕ) → m ≤ i → place_among a i m ≡ holding a i m
  among_earlier zero h = refl
  among_earlier (suc m) h = ap (λ (b : Bool). place_among a i m + one b) (earlier_held m (omega arith)) ∙ ap (λ (k : ℕ). k + one (ltb i (end_of a m))) (among_earlier m (omega arith))

  -- None from i up to the end of its span comes before it, all behind that do.
  among_later : (m : ℕ) → i ≤ m → m ≤ length a → place_among a i m ≡ holding a i i + (m - end_of a i)
  among_later m h f =
      let e : i + (m - i) ≡ m = omega arith in
      rw e at (behind (m - i) (omega arith))
    where
      step : (d : ℕ) → i + d < length a → Dec (i + d < end_of a i) → Dec (0 < d) → place_among a i (i + d) ≡ holding a i i + ((i + d) - end_of a i)
          → place_among a i (i + d) + one (sorts_before a (i + d) i) ≡ holding a i i + (suc (i + d) - end_of a i)
      step d f (yes p) (yes q) r =
          let n : ¬ (end_of a i < end_of a (i + d)) = λ w. v.nested (i + d) f (record { earlier = i; before = omega arith; holds = p; past = w }) in
          rw (sorts_not (i + d) (omega (arith, n)) (λ e. omega arith)) (omega arith)
      step d f (yes p) (no q) r =
          let e : i + d ≡ i = omega (arith, q) in
          let o : end_of a (i + d) ≡ end_of a i = ap (end_of a) e in
          rw (sorts_not (i + d) (omega arith) (λ z. omega arith)) (omega arith)
      step d f (no p) q r =
          rw (sorts_later (i + d) (omega (arith, p, (v.in_range (i + d) f).positive))) (omega (arith, p))

      behind : (d : ℕ) → i + d ≤ length a → place_among a i (i + d) ≡ holding a i i + ((i + d) - end_of a i)
      behind zero g =
          let e : i + 0 ≡ i = omega arith in
          rw e (among_earlier i (omega arith) ∙ omega arith)
      behind (suc d) g =
          let e : i + suc d ≡ suc (i + d) = omega arith in
          rw e (step d (omega arith) (dec_lt (i + d) (end_of a i)) (dec_lt 0 d) (behind d (omega arith)))

  -- The letter of i is its place in that order, from 0.
  pub letter_is_place : letter_for a i ≡ place_among a i (length a)
  letter_is_place = sym (among_later (length a) (omega arith) (omega arith))

-- The text written for a valid array gives each position its place in that order.
pub text_is_assigned : (a : List ℕ) → Valid a → text_for a ≡ tabulate (λ i. place_among a i (length a)) 0 (length a)
text_is_assigned a v =
    let place : ℕ → ℕ = λ i. place_among a i (length a) in
    ext_get_or 0 (text_for a) (tabulate place 0 (length a)) (length-tabulate (letter_for a) 0 (length a) ∙ sym (length-tabulate place 0 (length a)))
    (λ i h.
    let l : i < length a = omega (arith, length-tabulate (letter_for a) 0 (length a)) in
    get_or-tabulate (letter_for a) 0 (length a) i l ∙ ap (letter_for a) (zero-add i) ∙ letter_is_place a v i l ∙
    sym (get_or-tabulate place 0 (length a) i l ∙ ap place (zero-add i)))
