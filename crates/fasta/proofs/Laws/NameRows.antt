-- The pass over a name ends at the first position at which the condition of row 10 holds.
-- Assumes nothing.
use Rattle.std.specs.Prelude.{◌≡◌, refl, Bool, true, false, cond, List, ℕ, zero, suc, ◌+◌, ◌<◌, ltb, length, get_or, drop}
use Rattle.std.proofs.Common.{subst, inl, inr, arith, ltb-true, ltb-false, drop_of_length-le, drop-cons}
use Rattle.std.proofs.Math.Decide.{dec_lt}
use Rattle.words.specs.Laws.Numbers.{below_suc}
use Rattle.fasta_record.specs.declared.bytes.NameByte.{NameByte}
use Rattle.fasta_record.specs.declared.bytes.NameByte.TheVariants.{Part, Past, Foreign}
use Rattle.answer.specs.declared.Reason.TheVariants.{BadName}
use Rattle.fasta_record.specs.Fault.{refused_at}
use Rattle.fasta_record.specs.Bytes.{name_byte_of}
use Rattle.fasta.specs.Classes.{InName}
use Rattle.fasta_record.specs.Name.{max_name, name_step, name_from}
use Rattle.fasta.specs.Rows.{NameEnds, too_long, foreign}
use Rattle.fasta.specs.Laws.Classes.{NameByteSays, name_byte_says}
use Rattle.fasta.specs.Laws.NameRows.{NameRow, NameSays, in_name_not_over, in_name_fits, end_fits, NameReached, over_says}

module _ {x : List ℕ} {s p : ℕ} (name : NameEnds x s p) where
  -- Where a name ends, row 10 is not given.
  pub named_fits : (k : ℕ) → ¬ NameRow x s k
  named_fits k r = go (dec_lt k p) (dec_lt p k)
    where
      go : Dec (k < p) → Dec (p < k) → ⊥
      go (yes l) d =
          in_name_fits x s k (omega (arith, name.up_to.within)) (name.up_to.bytes k r.0.behind l) (omega (arith, name.most)) r
      go (no n) (yes l) =
          in_name_not_over x p (omega (arith, r.0.within)) (r.0.bytes p name.up_to.behind l) name.over
      go (no n) (no m) = end_fits name (subst (NameRow x s) (omega (arith, n, m)) r)

module _ (x : List ℕ) (s p count : ℕ) (within : p < length x) (at : NameReached x s p count)
    (rest : NameReached x s (suc p) (suc count) → NameSays x s (name_from (suc p) (suc count) (drop (suc p) x))) where
  further : InName (get_or x p 0) → count < max_name → NameReached x s (suc p) (suc count)
  further i few =
      record {
        up_to =
            record {
              behind = omega (arith, at.place);
              within = within;
              bytes = λ k h l. below_suc (λ j. s < j → InName (get_or x j 0)) p (λ j m n. at.up_to.bytes j n m) (λ n. i) k l h;
            };
        place = omega (arith, at.place);
        most = few;
        clean = below_suc (λ k. ¬ NameRow x s k) p at.clean (in_name_fits x s p within i (omega (arith, at.place)));
      }

  name_step_lem : (k : NameByte) → NameByteSays (get_or x p 0) k → NameSays x s (name_step k p count (name_from (suc p) (suc count) (drop (suc p) x)))
  name_step_lem Part i = go (ltb count max_name) refl
    where
      go : (t : Bool) → ltb count max_name ≡ t → NameSays x s (cond t (name_from (suc p) (suc count) (drop (suc p) x)) (refused_at BadName p))
      go true h = rest (further i (ltb-true count max_name h))
      go false h =
          (refl, (at.up_to, too_long (omega (arith, at.place, at.most, ltb-false count max_name h)) within i), at.clean)
  name_step_lem Past o = over_says x s p count at (inr (within, o))
  name_step_lem Foreign n = (refl, (at.up_to, foreign within n.0 n.1), at.clean)

-- The pass from p on, over d bytes.
name_from_says :
    (x : List ℕ) (s d p count : ℕ) → p + d ≡ length x → NameReached x s p count → NameSays x s (name_from p count (drop p x))
name_from_says x s zero p count h at =
    rw (drop_of_length-le x {i = p} (omega arith)) (over_says x s p count at (inl (omega arith)))
name_from_says x s (suc d) p count h at =
    rw (drop-cons x p 0 (omega arith))
    (name_step_lem x s p count (omega arith) at (name_from_says x s d (suc p) (suc count) (omega arith)) (name_byte_of (get_or x p 0))
    (name_byte_says (get_or x p 0)))

-- What is found of the name of the record that starts at s.
pub name_says : (x : List ℕ) (s d : ℕ) → suc s + d ≡ length x → NameSays x s (name_from (suc s) 0 (drop (suc s) x))
name_says x s d h =
    name_from_says x s d (suc s) 0 h
    (record {
      up_to = record { behind = omega arith; within = omega arith; bytes = λ k l m. absurd (omega arith) };
      place = omega arith;
      most = omega arith;
      clean = λ k l r. omega (arith, r.0.behind);
    })
