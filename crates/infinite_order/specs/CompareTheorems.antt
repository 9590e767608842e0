-- What the contract of the comparison says by the published definition: two texts of 1 to 1,048,576 letters are accepted, and the count says
-- which is before the other; what is refused otherwise.
-- Assumes nothing.
use Rattle.std.specs.Prelude.{◌≡◌, refl, ◌⊎◌, ◌↔◌, Bool, true, false, List, ℕ, zero, suc, ◌<◌, ltb, eqb, length}
use Rattle.std.proofs.Common.{sym, ap, subst, ◌∙◌, inl, inr, arith, lt-ltb, eq-eqb, ne_eqb}
use Rattle.std.proofs.Math.Decide.{dec_lt}
use Rattle.words.specs.Letters.{rising}
use Rattle.words.specs.Decided.{Comparison, below, same, above, decided_rising}
use Rattle.words.specs.InfiniteOrder.{InfiniteLess}
use Rattle.words.specs.Compute.InfiniteOrder.{InfiniteMeans, compare_infinite}
use Rattle.words.specs.Laws.InfiniteOrder.{compares_as}
use Rattle.answer.specs.declared.Reason.{Reason}
use Rattle.answer.specs.declared.Reason.TheVariants.{EmptyText, TextTooLong}
use Rattle.answer.specs.declared.Answer.{Answer}
use Rattle.answer.specs.Answers.{accepted_with, refused_for, refused_if, number, value}
use Rattle.answer.specs.Limits.{Sized, max_length}
use Rattle.checks.specs.CheckLaws.{two_texts_passes}
use Rattle.letters.specs.Compared.{comparison_of}
use Rattle.infinite_order.specs.Answers.{count_of, compare_answer}

-- The answer that a count stands for.
abbrev answer_for : ℕ → Comparison
answer_for zero = below
answer_for (suc zero) = same
answer_for (suc (suc k)) = above

counted : (c : Comparison) → answer_for (count_of (comparison_of c)) ≡ c
counted below = refl
counted same = refl
counted above = refl

-- Two texts of the lengths that are accepted.
module _ (u v : List ℕ) (first : Sized (length u)) (second : Sized (length v)) where
  -- The call refuses neither; the count is that of the comparison.
  pub compare_accepts : compare_answer u v ≡ accepted_with (count_of (comparison_of (compare_infinite decided_rising 0 u v)))
  compare_accepts = two_texts_passes (length u) (length v) first second _

  -- The count is that of an answer exactly where the answer holds.
  pub compare_means : (c : Comparison) → (compare_answer u v ≡ accepted_with (count_of (comparison_of c))) ↔ InfiniteMeans rising c u v
  compare_means c =
      let p = compares_as rising decided_rising 0 u v first.some second.some c in (
        λ e.
            p.0
            (sym (counted (compare_infinite decided_rising 0 u v)) ∙ ap (λ (a : Answer). answer_for (value a)) (sym compare_accepts ∙ e) ∙
            counted c),
        λ h. compare_accepts ∙ ap (λ (d : Comparison). accepted_with (count_of (comparison_of d))) (p.1 h),
      )

  -- Count 0: u is before v in infinite order.
  pub compare_below : (compare_answer u v ≡ accepted_with 0) ↔ InfiniteLess rising u v
  compare_below = compare_means below

  -- Count 1: they are the same text.
  pub compare_same : (compare_answer u v ≡ accepted_with 1) ↔ (u ≡ v)
  compare_same = (λ e. ((compare_means same).0 e).lower, λ h. (compare_means same).1 (record { lower = h }))

  -- Count 2: v is before u.
  pub compare_above : (compare_answer u v ≡ accepted_with 2) ↔ InfiniteLess rising v u
  compare_above = compare_means above

-- A refusal behind a check that gives the same one.
either : (fails : Bool) (reason : Reason) → refused_if fails reason 0 (refused_for reason 0) ≡ refused_for reason 0
either true reason = refl
either false reason = refl

-- Any two texts.
module _ (u v : List ℕ) where
  -- One of them is empty.
  abbrev pub OneEmpty : Type 0
  OneEmpty = (length u ≡ 0) ⊎ (length v ≡ 0)

  -- None is empty, and one is too long.
  abbrev pub OneTooLong : Type 0
  OneTooLong = (0 < length u) × (0 < length v) × ((max_length < length u) ⊎ (max_length < length v))

  -- What decides the answer, in the order of the checks, and its number: a refusal's, or 0.
  data Case : ℕ → Type 0 where
    empty : OneEmpty → Case 1
    long : OneTooLong → Case 2
    sized : Sized (length u) → Sized (length v) → Case 0

  -- One of the cases holds.
  case_of : (k : ℕ) × Case k
  case_of = go (dec_lt 0 (length u)) (dec_lt 0 (length v)) (dec_lt max_length (length u)) (dec_lt max_length (length v))
    where
      go : Dec (0 < length u) → Dec (0 < length v) → Dec (max_length < length u) → Dec (max_length < length v) → (k : ℕ) × Case k
      go (no p) q r s = (1, empty (inl (omega (arith, p))))
      go (yes p) (no q) r s = (1, empty (inr (omega (arith, q))))
      go (yes p) (yes q) (yes r) s = (2, long (p, q, inl r))
      go (yes p) (yes q) (no r) (yes s) = (2, long (p, q, inr s))
      go (yes p) (yes q) (no r) (no s) =
          (0, sized (record { some = p; short = omega (arith, r) }) (record { some = q; short = omega (arith, s) }))

  if_empty : OneEmpty → compare_answer u v ≡ refused_for EmptyText 0
  if_empty (inl e) = simp (eq-eqb (length u) 0 e)
  if_empty (inr e) = simp (eq-eqb (length v) 0 e) (either (eqb (length u) 0) EmptyText)

  if_long : OneTooLong → compare_answer u v ≡ refused_for TextTooLong 0
  if_long (p, q, inl l) =
      simp (ne_eqb (length u) 0 (λ e. omega (arith, p, e)), ne_eqb (length v) 0 (λ e. omega (arith, q, e)), lt-ltb max_length (length u) l)
  if_long (p, q, inr l) =
      simp (ne_eqb (length u) 0 (λ e. omega (arith, p, e)), ne_eqb (length v) 0 (λ e. omega (arith, q, e)), lt-ltb max_length (length v) l)
      (either (ltb max_length (length u)) TextTooLong)

  numbered : (k : ℕ) → Case k → number (compare_answer u v) ≡ k
  numbered k (empty h) = ap number (if_empty h)
  numbered k (long h) = ap number (if_long h)
  numbered k (sized g h) = ap number (compare_accepts u v g h)

  -- An answer has its case.
  told : (a : Answer) → compare_answer u v ≡ a → Case (number a)
  told a e = subst Case (sym (numbered case_of.0 case_of.1) ∙ ap number e) case_of.1

  -- 1 exactly where one of them is empty.
  pub compare_refuses_empty : (compare_answer u v ≡ refused_for EmptyText 0) ↔ OneEmpty
  compare_refuses_empty = (λ e. go (told (refused_for EmptyText 0) e), if_empty)
    where
      go : Case 1 → OneEmpty
      go (empty h) = h

  -- 2 exactly where none is empty and one is too long.
  pub compare_refuses_long : (compare_answer u v ≡ refused_for TextTooLong 0) ↔ OneTooLong
  compare_refuses_long = (λ e. go (told (refused_for TextTooLong 0) e), if_long)
    where
      go : Case 2 → OneTooLong
      go (long h) = h
