-- The pass over a name ends at the first position at which the condition of row 10 holds. Here what is known of row 10 by itself; what rests on
-- the whole of it stands in `proofs/Laws/NameRows`.
-- Assumes nothing.
use Rattle.std.specs.Prelude.{◌≡◌, refl, Bool, true, false, cond, List, ℕ, suc, ◌+◌, ◌≤◌, ◌<◌, eqb, length, get_or, Result, Ok, Err}
use Rattle.std.proofs.Common.{inl, inr, arith, eqb-true}
use Rattle.std.proofs.lemmas.Bool.{eqb-false}
use Rattle.answer.specs.declared.Reason.TheVariants.{BadName}
use Rattle.fasta_record.specs.declared.Fault.{Fault}
use Rattle.fasta_record.specs.Fault.{refused_at}
use Rattle.fasta.specs.Classes.{InName}
use Rattle.fasta_record.specs.Name.{max_name, name_over}
use Rattle.fasta.specs.Rows.{NameUpTo, NameOver, NameEnds, BadNameAt, empty, too_long, foreign}
use Rattle.fasta.specs.Laws.Classes.{in_name_goes_on}

-- The condition of row 10 at p.
abbrev pub NameRow : List ℕ → ℕ → ℕ → Type 0
NameRow x s p = NameUpTo x s p × BadNameAt x s p

-- What is found of the name behind the '>' at s.
abbrev pub NameSays : List ℕ → ℕ → Result ℕ Fault → Type 0
NameSays x s (Ok p) = NameEnds x s p
NameSays x s (Err fault) = (fault.reason ≡ BadName) × NameRow x s fault.position × ((k : ℕ) → k < fault.position → ¬ NameRow x s k)

-- A byte of a name is not where it is over.
pub in_name_not_over : (x : List ℕ) (p : ℕ) → p < length x → InName (get_or x p 0) → ¬ NameOver x p
in_name_not_over x p h i (inl e) = omega arith
in_name_not_over x p h i (inr o) = in_name_goes_on (get_or x p 0) i o.1

-- A byte of a name that is not its 61st.
pub in_name_fits : (x : List ℕ) (s p : ℕ) → p < length x → InName (get_or x p 0) → p < suc s + max_name → ¬ NameRow x s p
in_name_fits x s p h i l (u, empty e o) = in_name_not_over x p h i o
in_name_fits x s p h i l (u, too_long e m j) = omega arith
in_name_fits x s p h i l (u, foreign m n o) = n i

module _ {x : List ℕ} {s p : ℕ} (name : NameEnds x s p) where
  -- Where a name ends.
  pub end_fits : ¬ NameRow x s p
  end_fits (u, empty e o) = omega (arith, name.some)
  end_fits (u, too_long e h i) = in_name_not_over x p h i name.over
  end_fits (u, foreign h n m) = go name.over
    where
      go : NameOver x p → ⊥
      go (inl e) = omega arith
      go (inr o) = m o.1

-- What holds where the pass has come to p, after count bytes.
pub record NameReached (x : List ℕ) (s p count : ℕ) : Type 0 where
  pub up_to : NameUpTo x s p
  pub place : p ≡ suc s + count
  pub most : count ≤ max_name
  pub clean : (k : ℕ) → k < p → ¬ NameRow x s k

-- The name is over at p.
pub over_says : (x : List ℕ) (s p count : ℕ) → NameReached x s p count → NameOver x p → NameSays x s (name_over p count)
over_says x s p count at over = go (eqb count 0) refl
  where
    go : (t : Bool) → eqb count 0 ≡ t → NameSays x s (cond t (refused_at BadName p) (Ok p))
    go true h = (refl, (at.up_to, empty (omega (arith, at.place, eqb-true count 0 h)) over), at.clean)
    go false h =
        let n : ¬ (count ≡ 0) = eqb-false count 0 h in
        let e : p ≡ suc s + count = at.place in
        record { up_to = at.up_to; over = over; some = omega arith; most = omega (arith, at.most) }
