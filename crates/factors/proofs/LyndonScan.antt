-- The test for a Lyndon word, by what the code knows: no letters, too many of them, or a scan by the numbers of the bytes.
-- Assumes nothing.
use mathlib.Core.Path.{◌≡◌, sym, ap, ◌∙◌}
use mathlib.Core.List.{List}
use Prim.Native.Nat.{ℕ, ◌≤◌}
use native.Mathlib.Omega.{arith}
use lib.Dec.{eqb}
use lib.ListN.{length}
use Rattle.words.specs.Decided.{decided_rising}
use Rattle.answer.specs.Limits.{max_length}
use Rattle.letters.specs.Ranks.{rank_row, own_numbers}
use Rattle.letters.specs.RankLaws.{Bytes, identity_row, own_numbers_entry}
use Rattle.factors.specs.declared.scan.Stretch.{Stretch}
use Rattle.factors.specs.Duval.{scan_of}
use Rattle.factors.specs.DuvalSteps.{stretch_of}
use Rattle.factors.specs.DuvalLyndon.{scan_lyndon}
use Rattle.factors.specs.LyndonTest.{lyndon_within, within_limit}

-- A table that gives each byte its own number has the text as its row.
own_numbers_row : {ranks : List ℕ} (x : List ℕ) → Bytes x → ranks ≡ own_numbers → rank_row ranks x ≡ x
own_numbers_row x bytes e = ap (λ (t : List ℕ). rank_row t x) e ∙ identity_row own_numbers x own_numbers_entry (λ i l. bytes.byte i)

-- The period of that scan is compared with the length.
pub scanned_lyndon : {ranks : List ℕ} {s : Stretch} (x : List ℕ) → Bytes x → ranks ≡ own_numbers →
    ((asked : ℕ) → s ≡ stretch_of (scan_of decided_rising 0 (rank_row ranks x) 0 asked)) → ¬ (length x ≡ 0) → length x ≤ max_length →
    eqb s.period (length x) ≡ lyndon_within x
scanned_lyndon {ranks = ranks} {s = s} x bytes e f d l =
    let g : s ≡ stretch_of (scan_of decided_rising 0 x 0 0) = f 0 ∙ ap (λ (y : List ℕ). stretch_of (scan_of decided_rising 0 y 0 0)) (own_numbers_row x bytes e) in
    ap (λ (t : Stretch). eqb t.period (length x)) g ∙ scan_lyndon decided_rising 0 x 0 (omega (arith, d)) ∙ sym (within_limit x l)
