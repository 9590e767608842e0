-- How long BED lines are, and when they are written.
-- Assumes nothing.
use Rattle.std.specs.Prelude.{◌≡◌, refl, List, [], ◌∷◌, ◌++◌, ℕ, zero, suc, ◌+◌, ◌*◌, ◌-◌, ◌/◌, ◌^◌, ◌≤◌, ◌<◌, map, length, get_or, take, drop}
use Rattle.std.proofs.Common.{sym, ap, ap₂, ◌∙◌, arith, lt-ltb, le-ltb, length-append, append_assoc, append-nil, get_or-take, get_or-drop, drop-drop}
use Rattle.std.specs.Simd.{first_chunks}
use Rattle.words.specs.Runs.{Entry}
use Rattle.words.specs.Laws.Runs.{entry_equal}
use Rattle.fasta_record.specs.Name.{max_name}
use Rattle.bed.specs.Decimal.{decimal_of}
use Rattle.bed.specs.Bed.{number_field, repeat_field, bed_line, bed_lines, entry_with, entry_in, entries_of, lines_fitting}
use Rattle.bed.specs.Limits.{max_line}
use Rattle.bed.specs.Laws.Decimal.{decimal_length}

-- A line is as long as its parts.
pub line_parts :
    (name : List ℕ) (start last period : ℕ)
    → length (bed_line name (entry_with start last period))
    ≡ length name + (length (number_field start) + (length (number_field (suc last)) + (length (repeat_field period) + 1)))
line_parts name start last period = simp length-append

-- A line of 32-bit numbers fits its limit.
pub line_length :
    (name : List ℕ) (start last period : ℕ) → length name ≤ max_name → start < 2 ^ 32 → last < 2 ^ 32 → period < 2 ^ 32
    → length (bed_line name (entry_with start last period)) ≤ max_line
line_length name start last period h s l p =
    let a : length (decimal_of start) ≤ 10 = decimal_length 9 start (omega arith) in
    let b : length (decimal_of (suc last)) ≤ 10 = decimal_length 9 (suc last) (omega arith) in
    let c : length (decimal_of period) ≤ 10 = decimal_length 9 period (omega arith) in
    omega (arith, line_parts name start last period)

-- The runs of a list from place i on: the one that stands there, and the rest.
pub entries_next :
    (k i : ℕ) (l : List ℕ) → 0 < k
    → entries_of k (drop i l) ≡ entry_with (get_or l i 0) (get_or l (i + 1) 0) (get_or l (i + 2) 0) ∷ entries_of (k - 1) (drop (i + 3) l)
entries_next zero i l h = absurd (omega arith)
entries_next (suc k) i l h =
    let e : suc k - 1 ≡ k = omega arith in
    let z : i + 0 ≡ i = omega arith in
    rw (e, get_or-drop i l 0 0, get_or-drop i l 1 0, get_or-drop i l 2 0, z, drop-drop 3 i l)

-- The lines of the runs of a list from place i on.
pub lines_next :
    (name : List ℕ) (k i : ℕ) (l : List ℕ) → 0 < k
    → bed_lines name (entries_of k (drop i l))
    ≡ bed_line name (entry_with (get_or l i 0) (get_or l (i + 1) 0) (get_or l (i + 2) 0)) ++ bed_lines name (entries_of (k - 1) (drop (i + 3) l))
lines_next name k i l h = ap (bed_lines name) (entries_next k i l h)

-- No run is left.
pub lines_none : (name : List ℕ) (k : ℕ) (l : List ℕ) → k ≤ 0 → bed_lines name (entries_of k l) ≡ []
lines_none name zero l h = refl
lines_none name (suc k) l h = absurd (omega arith)

-- One line more.
pub lines_more : (name : List ℕ) (rs : List Entry) (r : Entry) → bed_lines name (rs ++ (r ∷ [])) ≡ bed_lines name rs ++ bed_line name r
lines_more name [] r = append-nil (bed_line name r)
lines_more name (t ∷ rs) r = ap (λ (l : List ℕ). bed_line name t ++ l) (lines_more name rs r) ∙ sym (append_assoc (bed_line name t) (bed_lines name rs) (bed_line name r))

-- The runs of the first k of the m rows of three numbers of a list.
pub rows_entries : (k m : ℕ) (l : List ℕ) → k ≤ m → map entry_in (take k (first_chunks 3 m l)) ≡ entries_of k l
rows_entries zero m l h = refl
rows_entries (suc k) zero l h = absurd (omega arith)
rows_entries (suc k) (suc m) l h =
    let row : entry_in (take 3 l) ≡ entry_in l =
    entry_equal (entry_in (take 3 l)) (entry_in l) (get_or-take 3 l 0 0 (omega arith)) (get_or-take 3 l 1 0 (omega arith)) (get_or-take 3 l 2 0 (omega arith))
    in
    ap₂ (λ (r : Entry) (rs : List Entry). r ∷ rs) row (rows_entries k m (drop 3 l) (omega arith))

module _ (name runs : List ℕ) (count places : ℕ) where
  -- Lines that pass the three tests are written,
  pub lines_fit :
      length name ≤ max_name → 3 * count ≤ length runs → max_line * count ≤ places → lines_fitting name runs count places ≡ bed_lines name (entries_of count runs)
  lines_fit h k l = simp (le-ltb max_name (length name) h, le-ltb (length runs) (3 * count) k, le-ltb places (max_line * count) l)

  -- and none where the name is too long,
  pub name_unfit : max_name < length name → lines_fitting name runs count places ≡ []
  name_unfit h = simp (lt-ltb max_name (length name) h)

  -- or the list too short,
  pub runs_unfit : length name ≤ max_name → length runs < 3 * count → lines_fitting name runs count places ≡ []
  runs_unfit h k = simp (le-ltb max_name (length name) h, lt-ltb (length runs) (3 * count) k)

  -- or the places too few.
  pub places_unfit : length name ≤ max_name → 3 * count ≤ length runs → places < max_line * count → lines_fitting name runs count places ≡ []
  places_unfit h k l = simp (le-ltb max_name (length name) h, le-ltb (length runs) (3 * count) k, lt-ltb places (max_line * count) l)

  -- The lines of the rows of three numbers that pass the tests are those that are written.
  pub rows_fitting : (rows : List (List ℕ)) (k : ℕ) → k ≡ count → rows ≡ first_chunks 3 (length runs / 3) runs → length name ≤ max_name →
      count ≤ length runs / 3 → max_line * count ≤ places → bed_lines name (map entry_in (take k rows)) ≡ lines_fitting name runs count places
  rows_fitting rows k s e h l m =
      ap₂ (λ (j : ℕ) (rs : List (List ℕ)). bed_lines name (map entry_in (take j rs))) s e
      ∙ ap (bed_lines name) (rows_entries count (length runs / 3) runs l)
      ∙ sym (lines_fit h (omega arith) m)
