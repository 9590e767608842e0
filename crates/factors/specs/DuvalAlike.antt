-- Duval's scan depends on nothing but the answers to its questions: two texts of one length, over whatever letters, in which every two positions
-- have one answer have the same factors and comparisons.
-- Assumes nothing.
use Rattle.std.specs.Prelude.{◌≡◌, refl, List, ℕ, zero, suc, ◌-◌, ◌<◌, length, get_or}
use Rattle.std.proofs.Common.{sym, ap, ◌∙◌, arith}
use Rattle.std.proofs.Math.Decide.{dec_lt}
use Rattle.words.specs.Letters.{Letters}
use Rattle.words.specs.Decided.{Decided, Comparison}
use Rattle.factors.specs.Duval.{Scanned, scan_from, scan_of, copies, restart, listed_then, list_from, duval}
use Rattle.factors.specs.DuvalSteps.{answer_at, one_more, scan_end, scan_below, scan_same, scan_above, scan_steps, list_end, listed_behind, list_scan}

module _
    {ℓ κ ℓ' κ'}
    {A : Type ℓ}
    {B : Type ℓ'}
    {O : Letters {ℓ, κ} A}
    {P : Letters {ℓ', κ'} B}
    (D : Decided O)
    (E : Decided P)
    (z : A)
    (w : B)
    (x : List A)
    (y : List B)
    (size : length y ≡ length x)
    (answers : (i j : ℕ) → i < length x → j < length x → D.compare (get_or x i z) (get_or x j z) ≡ E.compare (get_or y i w) (get_or y j w))
  where
    same_answer : {c : Comparison} (p j : ℕ) → j < length x → answer_at D z x p j ≡ c → answer_at E w y p j ≡ c
    same_answer p j l e = sym (answers j (j - p) l (omega arith)) ∙ e

    -- From position j on the scan of y finds what the whole of it finds.
    abbrev On : ℕ → ℕ → ℕ → ℕ → ℕ → Type 0
    On start r p j q = scan_from E w y (length y - j) start p j q ≡ scan_of E w y start r

    scan_alike : (start q : ℕ) → start < length x → scan_of D z x start q ≡ scan_of E w y start q
    scan_alike start r l =
        scan_steps D z x start (On start r) (λ s. s ≡ scan_of E w y start r)
        (record {
          on_same = λ p j q l c i. rw (one_more j, one_more q) (sym (scan_same E w y start p j q (omega (arith, size)) (same_answer p j l c)) ∙ i);
          on_above = λ p j q l c i. rw (one_more j, one_more q) (sym (scan_above E w y start p j q (omega (arith, size)) (same_answer p j l c)) ∙ i);
          on_below = λ p j q l c i. rw (one_more q) (sym (scan_below E w y start p j q (omega (arith, size)) (same_answer p j l c)) ∙ i);
          on_end = λ p j q l i. sym (scan_end E w y start p j q (omega (arith, size))) ∙ i;
        }) r l refl

    list_alike : (most start q : ℕ) → list_from D z x most start q ≡ list_from E w y most start q
    list_alike zero start q = refl
    list_alike (suc most) start q = go (dec_lt start (length x)) (list_alike most)
      where
        s : Scanned
        s = scan_of E w y start q

        go : Dec (start < length x) → ((start q : ℕ) → list_from D z x most start q ≡ list_from E w y most start q) →
            list_from D z x (suc most) start q ≡ list_from E w y (suc most) start q
        go (no l) rest = list_end D z x (suc most) start q (omega arith) ∙ sym (list_end E w y (suc most) start q (omega (arith, size)))
        go (yes l) rest =
            list_scan D z x most start q l ∙
            ap (λ (t : Scanned). listed_behind D z x most start t) (scan_alike start q l) ∙
            ap (listed_then (copies start s)) (rest (restart start s) s.comparisons) ∙ sym (list_scan E w y most start q (omega (arith, size)))

    pub duval_alike : duval D z x ≡ duval E w y
    duval_alike = list_alike (length x) 0 0 ∙ ap (λ (n : ℕ). list_from E w y n 0 0) (sym size)
