-- Checks one after the other, what they make of the answer, and what is known where they pass.
-- Assumes nothing.
use Rattle.std.specs.Prelude.{◌≡◌, refl, Bool, true, false, not, ◌&&◌, ℕ, zero, suc, ◌<◌, ◌≤◌, ltb, eqb, ⊤, Result, Ok, Err}
use Rattle.std.proofs.Common.{sym, ap, ◌∙◌, arith, lt-ltb, le-ltb, eq-eqb, ne_eqb, ltb-false, eqb-true}
use Rattle.std.proofs.lemmas.Bool.{eqb-false, not-false}
use Rattle.answer.specs.declared.Accepted.{Accepted}
use Rattle.answer.specs.declared.Refused.{Refused}
use Rattle.answer.specs.declared.Reason.{Reason}
use Rattle.answer.specs.declared.Reason.TheVariants.{EmptyText, TextTooLong, UnknownOrder, ShortOutput, ShortWork, WrongTable, NotLyndon}
use Rattle.answer.specs.declared.Answer.{Answer}
use Rattle.answer.specs.Answers.{accepted_with, refused_by, refused_for, refused_if, accepted_apart}
use Rattle.answer.specs.Limits.{Sized, max_length, run_list_length, prefix_count, work_length, ranked_order, table_length}
use Rattle.checks.specs.Checks.{limit_checked, length_checked, order_checked, output_checked, work_checked, text_checked}
use Rattle.checks.specs.Checks.{ordered_text_checked, forest_checked, runs_checked, Check, answer_to, Refuses}
use Rattle.checks.specs.Checks.{table_checked, ranked_checked, ranked_text_checked, ranked_forest_checked, ranked_runs_checked, uses_table}
use Rattle.checks.specs.Checks.{lyndon_checked, two_texts_checked, prefixes_checked}

module _ {now : Check} {check : Answer → Answer} (all : Refuses now check) (rest : Answer) where
  -- Checks that pass leave what follows.
  pub passing : {u : ⊤} → now ≡ Ok u → check rest ≡ rest
  passing e = sym (all.answer rest) ∙ ap (λ (c : Check). answer_to c rest) e

  -- Checks of which one fails refuse.
  pub failing : {refusal : Refused} → now ≡ Err refusal → check rest ≡ refused_by refusal
  failing e = sym (all.answer rest) ∙ ap (λ (c : Check). answer_to c rest) e

-- What is known where a check and what follows it accept: its condition, and that what follows does.
module _ (rest : Answer) where
  pub if_cleared : (fails : Bool) (reason : Reason) (position : ℕ) → refused_if fails reason position rest ≡ accepted_with 0 →
      (fails ≡ false) × (rest ≡ accepted_with 0)
  if_cleared true reason position e = absurd (accepted_apart (sym e))
  if_cleared false reason position e = (refl, e)

  pub order_cleared : (last order : ℕ) → order_checked last order rest ≡ accepted_with 0 → (order ≤ last) × (rest ≡ accepted_with 0)
  order_cleared last order e = let p = if_cleared (ltb last order) UnknownOrder 0 e in (ltb-false last order p.0, p.1)

  pub output_cleared : (needed given : ℕ) → output_checked needed given rest ≡ accepted_with 0 → (needed ≤ given) × (rest ≡ accepted_with 0)
  output_cleared needed given e = let p = if_cleared (ltb given needed) ShortOutput 0 e in (ltb-false given needed p.0, p.1)

  pub work_cleared : (needed given : ℕ) → work_checked needed given rest ≡ accepted_with 0 → (needed ≤ given) × (rest ≡ accepted_with 0)
  work_cleared needed given e = let p = if_cleared (ltb given needed) ShortWork 0 e in (ltb-false given needed p.0, p.1)

  pub lyndon_cleared : (holds : Bool) → lyndon_checked holds rest ≡ accepted_with 0 → (holds ≡ true) × (rest ≡ accepted_with 0)
  lyndon_cleared holds e = let p = if_cleared (not holds) NotLyndon 0 e in (not-false holds p.0, p.1)

  -- A table that is used has its length.
  pub table_cleared : (used : Bool) (entries : ℕ) → table_checked used entries rest ≡ accepted_with 0 →
      (used ≡ true → entries ≡ table_length) × (rest ≡ accepted_with 0)
  table_cleared used entries e =
      let p = if_cleared (used && not (eqb entries table_length)) WrongTable 0 e in
      (fits used p.0, p.1)
    where
      fits : (u : Bool) → u && not (eqb entries table_length) ≡ false → u ≡ true → entries ≡ table_length
      fits true q t = eqb-true entries table_length (not-false (eqb entries table_length) q)
      fits false q t = let z : ◌≡◌ {A = ℕ} 0 1 = cc in absurd (omega arith)

pub length_cleared : (rest : Answer) (limit n : ℕ) → length_checked limit n rest ≡ accepted_with 0 →
    (0 < n) × (n ≤ limit) × (rest ≡ accepted_with 0)
length_cleared rest limit n e =
    let some = if_cleared (limit_checked limit n rest) (eqb n 0) EmptyText 0 e in
    let short = if_cleared rest (ltb limit n) TextTooLong 0 some.1 in
    (omega (arith, eqb-false n 0 some.0), ltb-false limit n short.0, short.1)

-- The checks, where their conditions hold.
module _ (rest : Answer) where
  pub length_passes : (limit n : ℕ) → ¬ (n ≡ 0) → n ≤ limit → length_checked limit n rest ≡ rest
  length_passes limit n d h = simp (ne_eqb n 0 d, le-ltb limit n h)

  pub order_passes : (last order : ℕ) → order ≤ last → order_checked last order rest ≡ rest
  order_passes last order h = simp (le-ltb last order h)

  pub table_passes : (used : Bool) (entries : ℕ) → (used ≡ true → entries ≡ table_length) → table_checked used entries rest ≡ rest
  table_passes true entries h = simp (eq-eqb entries table_length (h refl))
  table_passes false entries h = refl

  pub output_passes : (needed given : ℕ) → needed ≤ given → output_checked needed given rest ≡ rest
  output_passes needed given h = simp (le-ltb given needed h)

  pub lyndon_passes : (holds : Bool) → holds ≡ true → lyndon_checked holds rest ≡ rest
  lyndon_passes holds t = simp t

  pub work_passes : (needed given : ℕ) → needed ≤ given → work_checked needed given rest ≡ rest
  work_passes needed given h = simp (le-ltb given needed h)

-- A call's checks pass where each buffer has the places needed.
module _ (n : ℕ) (sized : Sized n) where
  pub array_passes : (rest : Answer) → length_checked max_length n rest ≡ rest
  array_passes rest = length_passes rest max_length n (λ e. omega (arith, sized.some)) sized.short

  module _ (rest : Answer) where
    pub text_passes : (given : ℕ) → n ≤ given → text_checked n given rest ≡ rest
    text_passes given room = array_passes _ ∙ output_passes rest n given room

    pub prefixes_passes : (given : ℕ) → prefix_count n ≤ given → prefixes_checked n given rest ≡ rest
    prefixes_passes given room = array_passes _ ∙ output_passes rest (prefix_count n) given room

    pub ordered_text_passes : (order given : ℕ) → order ≤ 1 → n ≤ given → ordered_text_checked n order given rest ≡ rest
    ordered_text_passes order given named room = array_passes _ ∙ order_passes _ 1 order named ∙ output_passes rest n given room

    pub forest_passes : (first past : ℕ) → n ≤ first → n ≤ past → forest_checked n first past rest ≡ rest
    forest_passes first past first_room past_room = array_passes _ ∙ output_passes _ n first first_room ∙ output_passes rest n past past_room

    pub runs_passes : (list work : ℕ) → run_list_length n ≤ list → work_length n ≤ work → runs_checked n list work rest ≡ rest
    runs_passes list work list_room work_room =
        array_passes _ ∙ output_passes _ (run_list_length n) list list_room ∙ work_passes rest (work_length n) work work_room

-- And those of a call on two texts, where both have letters and neither too many.
pub two_texts_passes : (m n : ℕ) → Sized m → Sized n → (rest : Answer) → two_texts_checked m n rest ≡ rest
two_texts_passes m n first second rest =
    simp (
      ne_eqb m 0 (λ e. omega (arith, first.some)),
      ne_eqb n 0 (λ e. omega (arith, second.some)),
      le-ltb max_length m first.short,
      le-ltb max_length n second.short,
    )

-- Orders 0 and 1 use no table.
pub table_unused : (order : ℕ) → order ≤ 1 → ¬ (uses_table order ≡ true)
table_unused zero l t = let z : ◌≡◌ {A = ℕ} 0 1 = cc in omega arith
table_unused (suc zero) l t = let z : ◌≡◌ {A = ℕ} 0 1 = cc in omega arith
table_unused (suc (suc order)) l t = omega arith

-- Checks with an order number that the call takes, and with a table that fits where it is used, are those of the call without them.
module _ (n order entries : ℕ) (named : order ≤ ranked_order) (fits : uses_table order ≡ true → entries ≡ table_length) (rest : Answer) where
  pub ranked_as : ranked_checked n order entries rest ≡ length_checked max_length n rest
  ranked_as = ap (length_checked max_length n) (order_passes _ ranked_order order named ∙ table_passes rest (uses_table order) entries fits)

module _ (n : ℕ) (rest : Answer) where
  pub ordered_text_as : (order given : ℕ) → order ≤ 1 → ordered_text_checked n order given rest ≡ text_checked n given rest
  ordered_text_as order given named = ap (length_checked max_length n) (order_passes _ 1 order named)

  module _ (order entries : ℕ) (named : order ≤ ranked_order) (fits : uses_table order ≡ true → entries ≡ table_length) where
    pub ranked_text_as : (given : ℕ) → ranked_text_checked n order entries given rest ≡ text_checked n given rest
    ranked_text_as given = ranked_as n order entries named fits _

    pub ranked_forest_as : (first past : ℕ) → ranked_forest_checked n order entries first past rest ≡ forest_checked n first past rest
    ranked_forest_as first past = ranked_as n order entries named fits _

  pub ranked_runs_as : (entries list work : ℕ) → entries ≡ table_length → ranked_runs_checked n entries list work rest ≡ runs_checked n list work rest
  ranked_runs_as entries list work fits = ap (length_checked max_length n) (table_passes _ true entries (λ t. fits))

-- The checks, where they refuse: together with the laws above, each is given whenever its condition holds, and never otherwise.
module _ (rest : Answer) where
  pub length_empty : (limit n : ℕ) → n ≡ 0 → length_checked limit n rest ≡ refused_for EmptyText 0
  length_empty limit n e = simp (eq-eqb n 0 e)

  pub length_over : (limit n : ℕ) → ¬ (n ≡ 0) → limit < n → length_checked limit n rest ≡ refused_for TextTooLong 0
  length_over limit n d h = simp (ne_eqb n 0 d, lt-ltb limit n h)

  pub order_unknown : (last order : ℕ) → last < order → order_checked last order rest ≡ refused_for UnknownOrder 0
  order_unknown last order h = simp (lt-ltb last order h)

  pub table_unfit : (used : Bool) (entries : ℕ) → used ≡ true → ¬ (entries ≡ table_length) → table_checked used entries rest ≡ refused_for WrongTable 0
  table_unfit used entries t d = simp (t, ne_eqb entries table_length d)

  pub output_short : (needed given : ℕ) → given < needed → output_checked needed given rest ≡ refused_for ShortOutput 0
  output_short needed given h = simp (lt-ltb given needed h)

  pub lyndon_fails : (holds : Bool) → holds ≡ false → lyndon_checked holds rest ≡ refused_for NotLyndon 0
  lyndon_fails holds f = simp f

  pub work_short : (needed given : ℕ) → given < needed → work_checked needed given rest ≡ refused_for ShortWork 0
  work_short needed given h = simp (lt-ltb given needed h)

-- What an answer says of the checks before it.
abbrev said_by : Result Accepted Refused → Check
said_by (Ok accepted) = Ok tt
said_by (Err refusal) = Err refusal

-- `Refuses` settles what checks say.
pub refuses_settles : {now now' : Check} {check : Answer → Answer} → Refuses now check → Refuses now' check → now ≡ now'
refuses_settles {now = now} {now' = now'} a b = told now now' (a.answer (accepted_with 0) ∙ sym (b.answer (accepted_with 0)))
  where
    told : (c d : Check) → answer_to c (accepted_with 0) ≡ answer_to d (accepted_with 0) → c ≡ d
    told (Ok u) (Ok v) e = refl
    told (Ok u) (Err r) e = absurd (accepted_apart e)
    told (Err r) (Ok u) e = absurd (accepted_apart (sym e))
    told (Err r) (Err s) e = ap (λ (a : Answer). said_by a.outcome) e
