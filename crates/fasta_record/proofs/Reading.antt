-- Where the first line of a part of the input ends.
-- Assumes nothing.
use Rattle.std.proofs.Common.{◌≡◌, refl, sym, ◌∙◌, Bool, true, false, cond, Option, Some, None, List, [], ◌∷◌, length, take, drop}
use Rattle.std.proofs.Common.{ℕ, suc, ◌+◌, ◌-◌, ◌≤◌, nat_eq, arith, length-drop}
use Rattle.std.proofs.Math.Decide.{dec_le}
use Rattle.std.proofs.Common.{drop_of_length-le}
use Rattle.std.proofs.lemmas.List.{take_rest}
use Rattle.std.specs.List.{position, position_from}
use Rattle.std.proofs.lemmas.Iterator.Adapters.{position_from-zero}
use Rattle.fasta_record.specs.Bytes.{line_end, starts_with}
use Rattle.fasta_record.specs.Lines.{after_line}

-- Whether a byte ends a line.
abbrev ends : ℕ → Bool
ends b = nat_eq b line_end

-- Where a line ends whose bytes from i places behind p on are s, where its first LF is found.
abbrev reached : ℕ → ℕ → List ℕ → Option ℕ → ℕ
reached p i s (Some k) = p + k + 1
reached p i s None = p + i + length s

reached-next : (p i b : ℕ) (s : List ℕ) (o : Option ℕ) → reached p (i + 1) s o ≡ reached p i (b ∷ s) o
reached-next p i b s (Some k) = refl
reached-next p i b s None = omega arith

line_from : (p i : ℕ) (s : List ℕ) → after_line (p + i) s ≡ reached p i s (position_from ends i s)
line_from p i [] = omega arith
line_from p i (b ∷ s) = go (ends b) (line_from p (i + 1) s)
  where
    go : (t : Bool) → after_line (p + (i + 1)) s ≡ reached p (i + 1) s (position_from ends (i + 1) s) →
        cond t (suc (p + i)) (after_line (suc (p + i)) s) ≡ reached p i (b ∷ s) (cond t (Some i) (position_from ends (i + 1) s))
    go true e = omega arith
    go false e =
        let q : suc (p + i) ≡ p + (i + 1) = omega arith in
        rw q (e ∙ reached-next p i b s (position_from ends (i + 1) s))

-- The line ends past its first LF, or where s does.
pub line_reached : (p : ℕ) (s : List ℕ) {o : Option ℕ} → o ≡ position ends s → after_line p s ≡ reached p 0 s o
line_reached p s e =
    let q : p + 0 ≡ p = omega arith in
    rw (e ∙ position_from-zero ends s) (rw q at (line_from p 0 s))

-- What is left of the input from p on is s: the first LF in it ends the line,
pub line_found : (x s : List ℕ) (p k : ℕ) {o : Option ℕ} → s ≡ take (length x - p) (drop p x) → o ≡ position ends s → o ≡ Some k → p + k + 1 ≡ after_line p (drop p x)
line_found x s p k r e f = sym (rw (r ∙ take_rest x p) at (line_reached p s (sym f ∙ e)))

-- or the input ends with it.
pub line_unfound : (x s : List ℕ) (p : ℕ) {o : Option ℕ} → s ≡ take (length x - p) (drop p x) → o ≡ position ends s → o ≡ None → p ≤ length x →
    length x ≡ after_line p (drop p x)
line_unfound x s p r e f h =
    let q : s ≡ drop p x = r ∙ take_rest x p in
    omega (arith, rw q at (line_reached p s (sym f ∙ e)), length-drop p x)

line_most : (p : ℕ) (s : List ℕ) → after_line p s ≤ p + length s
line_most p [] = omega arith
line_most p (b ∷ s) = go (ends b) (line_most (suc p) s)
  where
    go : (t : Bool) → after_line (suc p) s ≤ suc p + length s → cond t (suc p) (after_line (suc p) s) ≤ p + suc (length s)
    go true h = omega arith
    go false h = omega arith

-- A line with a byte ends inside the input.
pub line_within : (p b : ℕ) (x : List ℕ) → starts_with b (drop p x) ≡ true → after_line p (drop p x) ≤ length x
line_within p b x h = go (dec_le (length x) p)
  where
    go : Dec (length x ≤ p) → after_line p (drop p x) ≤ length x
    go (yes l) =
        let z : ◌≡◌ {A = Bool} false true = rw (drop_of_length-le x l) at h in
        absurd cc
    go (no n) = omega (arith, line_most p (drop p x), length-drop p x)
