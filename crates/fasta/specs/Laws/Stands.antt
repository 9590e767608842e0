-- The byte that begins a part of the input is the one that stands there.
-- Assumes nothing.
use Rattle.std.specs.Prelude.{◌≡◌, refl, Bool, true, false, List, ℕ, ◌<◌, eqb, length, get_or, drop}
use Rattle.std.proofs.Common.{arith, eqb-true, drop_of_length-le, drop-cons}
use Rattle.std.proofs.Math.Decide.{dec_lt}
use Rattle.std.proofs.lemmas.Bool.{eqb-false}
use Rattle.fasta_record.specs.Bytes.{starts_with}
use Rattle.fasta.specs.Rows.{Stands}

-- What the test of the first byte says.
abbrev pub StartSays : List ℕ → ℕ → ℕ → Bool → Type 0
StartSays x p b true = Stands x p b
StartSays x p b false = ¬ Stands x p b

pub start_says : (x : List ℕ) (p b : ℕ) → StartSays x p b (starts_with b (drop p x))
start_says x p b = go (dec_lt p (length x))
  where
    byte : p < length x → (t : Bool) → eqb (get_or x p 0) b ≡ t → StartSays x p b t
    byte h true e = record { inside = h; byte = eqb-true (get_or x p 0) b e }
    byte h false e = λ s. eqb-false (get_or x p 0) b e s.byte

    go : Dec (p < length x) → StartSays x p b (starts_with b (drop p x))
    go (yes h) = rw (drop-cons x p 0 h) (byte h (eqb (get_or x p 0) b) refl)
    go (no n) = rw (drop_of_length-le x {i = p} (omega arith)) (λ (s : Stands x p b). n s.inside)
