-- BED lines: name, start, end (one past the last position) and `p` with the period, with tabs between them.
-- Assumes nothing.
use Rattle.std.specs.Prelude.{cond, List, [], ◌∷◌, ◌++◌, ℕ, zero, suc, ◌*◌, ltb, length, get_or, drop}
use Rattle.words.specs.Runs.{Entry}
use Rattle.fasta_record.specs.Name.{max_name}
use Rattle.bed.specs.Limits.{max_line}
use Rattle.bed.specs.Decimal.{decimal_of}

-- A tab and a number.
abbrev pub number_field : ℕ → List ℕ
number_field n = 9 ∷ decimal_of n

-- A tab and the name of a repeat of period p: `p` and the period.
abbrev pub repeat_field : ℕ → List ℕ
repeat_field p = 9 ∷ 112 ∷ decimal_of p

-- The line of a run in a record of this name.
abbrev pub bed_line : List ℕ → Entry → List ℕ
bed_line name r =
    name
    ++ (number_field r.start ++ (number_field (suc r.last) ++ (repeat_field r.period ++ (10 ∷ []))))

-- The lines of runs.
abbrev pub bed_lines : List ℕ → List Entry → List ℕ
bed_lines name [] = []
bed_lines name (r ∷ rs) = bed_line name r ++ bed_lines name rs

-- A run by its three numbers.
abbrev pub entry_with : ℕ → ℕ → ℕ → Entry
entry_with start last period = record { start = start; last = last; period = period }

-- A run by the first three numbers of a list.
abbrev pub entry_in : List ℕ → Entry
entry_in l = entry_with (get_or l 0 0) (get_or l 1 0) (get_or l 2 0)

-- The first count runs of a list of numbers, three for each run.
abbrev pub entries_of : ℕ → List ℕ → List Entry
entries_of zero l = []
entries_of (suc k) l = entry_in l ∷ entries_of k (drop 3 l)

-- The lines written for the first count runs of a list into so many places: none where the name is too long, the list too short or the places too few.
abbrev pub lines_fitting : List ℕ → List ℕ → ℕ → ℕ → List ℕ
lines_fitting name runs count places =
    cond (ltb max_name (length name)) []
    (cond (ltb (length runs) (3 * count)) [] (cond (ltb places (max_line * count)) [] (bed_lines name (entries_of count runs))))
