-- The values of a function, one after another: their number, each of them, and two rows joined.
-- Assumes nothing.
use Rattle.std.specs.Prelude.{◌≡◌, refl, List, ◌∷◌, ◌++◌, ℕ, zero, suc, ◌+◌, ◌<◌, length, get_or}
use Rattle.std.proofs.Common.{sym, ap, subst, ◌∙◌, arith, zero-add}
use Rattle.words.specs.Tabulate.{tabulate}

-- There are k values.
pub length-tabulate : (f : ℕ → ℕ) (i k : ℕ) → length (tabulate f i k) ≡ k
length-tabulate f i zero = refl
length-tabulate f i (suc k) = ap suc (length-tabulate f (suc i) k)

-- Value j is that of f at i + j.
pub get_or-tabulate : (f : ℕ → ℕ) (i k j : ℕ) → j < k → get_or (tabulate f i k) j 0 ≡ f (i + j)
get_or-tabulate f i zero j h = absurd (omega arith)
get_or-tabulate f i (suc k) zero h = ap f (omega arith)
get_or-tabulate f i (suc k) (suc j) h =
    let e : suc i + j ≡ i + suc j = omega arith in
    rw e at (get_or-tabulate f (suc i) k j (omega arith))

-- A row and the row that goes on behind it are one row.
pub tabulate_append : (f : ℕ → ℕ) (i k m : ℕ) → tabulate f i k ++ tabulate f (i + k) m ≡ tabulate f i (k + m)
tabulate_append f i zero m =
    let e : i + zero ≡ i = omega arith in
    let o : zero + m ≡ m = omega arith in
    rw (e, o)
tabulate_append f i (suc k) m =
    let e : i + suc k ≡ suc i + k = omega arith in
    let o : suc k + m ≡ suc (k + m) = omega arith in
    rw (e, o) (ap (λ (r : List ℕ). f i ∷ r) (tabulate_append f (suc i) k m))

-- What holds of each value holds of each entry of the row.
pub tabulate_each {ℓ} : (P : ℕ → ℕ → Type ℓ) (f : ℕ → ℕ) (n : ℕ) → ((i : ℕ) → i < n → P i (f i)) → (i : ℕ) → i < n → P i (get_or (tabulate f 0 n) i 0)
tabulate_each P f n h i l =
    subst (P i) (sym (ap f (zero-add i)) ∙ sym (get_or-tabulate f 0 n i l)) (h i l)
