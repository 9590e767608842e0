-- Where a name ends: at one position, within the header line.
-- Assumes nothing.
use Rattle.std.specs.Prelude.{◌≡◌, ◌⊎◌, List, ℕ, ◌≤◌, ◌<◌, length, get_or}
use Rattle.std.proofs.Common.{ap, inl, inr, arith}
use Rattle.std.proofs.Math.Decide.{dec_le}
use Rattle.fasta_record.specs.Bytes.{header_mark, line_end}
use Rattle.fasta.specs.Rows.{Stands, NameEnds, HeaderEnds}
use Rattle.fasta.specs.Laws.NameRows.{in_name_not_over}

name_least : {x : List ℕ} {s p q : ℕ} → NameEnds x s p → NameEnds x s q → ¬ (p < q)
name_least {x} {s} {p} n m h =
    in_name_not_over x p (omega (arith, m.up_to.within)) (m.up_to.bytes p (omega (arith, n.some)) h) n.over

pub name_unique : {x : List ℕ} {s p q : ℕ} → NameEnds x s p → NameEnds x s q → p ≡ q
name_unique n m = omega (arith, name_least n m, name_least m n)

-- The name behind a '>' ends within the header line.
pub name_in_header : {x : List ℕ} {s p e : ℕ} → Stands x s header_mark → NameEnds x s p → HeaderEnds x s e → p ≤ e
name_in_header {x} {s} {p} {e} mark n h = go (dec_le p e) h.here
  where
    go : Dec (p ≤ e) → (e ≡ length x) ⊎ Stands x e line_end → p ≤ e
    go (yes l) d = l
    go (no l) (inl z) = omega (arith, l, n.up_to.within)
    go (no l) (inr z) =
        let above : ¬ (s ≡ e) = λ i. absurd (omega (arith, mark.byte, z.byte, ap (λ (k : ℕ). get_or x k 0) i)) in
        absurd (omega (arith, z.byte, n.up_to.bytes e (omega (arith, above, h.from)) (omega (arith, l))))
