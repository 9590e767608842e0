-- The row of ranks: its length, its letters, and the row of each order by the tables that the code writes.
-- Assumes nothing.
use Rattle.std.specs.Prelude.{◌≡◌, refl, Bool, true, false, cond, List, [], ◌∷◌, ℕ, zero, suc, ◌-◌, ◌<◌, eqb, length, take, drop}
use Rattle.std.proofs.Common.{sym, ap₂, subst, ◌∙◌, arith, zero-add, Fits, eq-eqb, eqb-true, length-drop, take_all}
use Rattle.std.proofs.Math.Path.{ap}
use Rattle.std.proofs.Math.Decide.{dec_lt}
use Rattle.std.specs.Int.{w8}
use Rattle.std.proofs.lemmas.Bool.{eqb-false, not-true, not-false}
use Rattle.std.proofs.Math.ListN.{get_or, get_or-eq_default}
use Rattle.std.proofs.lemmas.List.{length-map}
use Rattle.words.specs.Letters.{rising, falling}
use Rattle.words.specs.Laws.SpanLyndon.{letters}
use Rattle.words.specs.Laws.OrderedAlike.{Carries, OrderedAlike}
use Rattle.words.specs.Laws.Tabulate.{length-tabulate, get_or-tabulate}
use Rattle.answer.specs.declared.Answer.{Answer}
use Rattle.answer.specs.Limits.{table_length}
use Rattle.checks.specs.Checks.{uses_table, ranked_checked}
use Rattle.checks.specs.CheckLaws.{ranked_as}
use Rattle.letters.specs.Ranks.{rank_by, rank_row, row_in, rank_differs, own_numbers}
use Rattle.letters.specs.Keys.{rank_in, rank_table, turned_table}

-- A list of bytes.
pub record Bytes (x : List ℕ) : Type 0 where
  pub byte : (i : ℕ) → get_or x i 0 < table_length

-- It is enough that the letters inside are bytes: past the end get_or gives 0.
pub bytes_inside : (x : List ℕ) → ((i : ℕ) → i < length x → get_or x i 0 < table_length) → Bytes x
bytes_inside x inside = record { byte = λ i. at i (dec_lt i (length x)) }
  where
    at : (i : ℕ) → Dec (i < length x) → get_or x i 0 < table_length
    at i (yes l) = inside i l
    at i (no l) = subst (λ (a : ℕ). a < table_length) (sym (get_or-eq_default x 0 {n = i} (omega (arith, l)))) (omega arith)

-- Letters that fit 8 bits are bytes.
pub fitting_bytes : {x : List ℕ} → ((i : ℕ) → Fits w8 (get_or x i 0)) → Bytes x
fitting_bytes h = record { byte = λ i. (h i).fits }

-- The row of ranks has as many letters as the text.
pub row_length : (table x : List ℕ) → length (rank_row table x) ≡ length x
row_length table x = length-map x (rank_by table)

-- They are the ranks of its letters.
pub row_letter : (table x : List ℕ) (i : ℕ) → i < length x → get_or (rank_row table x) i 0 ≡ rank_by table (get_or x i 0)
row_letter table [] i l = absurd (omega arith)
row_letter table (a ∷ x) zero l = refl
row_letter table (a ∷ x) (suc i) l = row_letter table x i (omega arith)

-- Two tables that agree on the letters of a text give one row.
rows_agree : (t u x : List ℕ) → ((i : ℕ) → i < length x → rank_by t (get_or x i 0) ≡ rank_by u (get_or x i 0)) → rank_row t x ≡ rank_row u x
rows_agree t u [] h = refl
rows_agree t u (a ∷ x) h =
    ap₂ (λ (b : ℕ) (y : List ℕ). b ∷ y) (h 0 (omega arith)) (rows_agree t u x (λ i l. h (suc i) (omega arith)))

-- A table that gives each letter of a text its own number leaves the text as it is.
own_row : (t x : List ℕ) → ((i : ℕ) → i < length x → rank_by t (get_or x i 0) ≡ get_or x i 0) → rank_row t x ≡ x
own_row t [] h = refl
own_row t (a ∷ x) h = ap₂ (λ (b : ℕ) (y : List ℕ). b ∷ y) (h 0 (omega arith)) (own_row t x (λ i l. h (suc i) (omega arith)))

-- A table that gives each byte its own number leaves a text of bytes as it is.
pub identity_row : (table x : List ℕ) → ((a : ℕ) → a < table_length → get_or table a 0 ≡ a) → ((i : ℕ) → i < length x → get_or x i 0 < table_length) →
    rank_row table x ≡ x
identity_row table x own bytes = own_row table x (λ i l. own (get_or x i 0) (bytes i l))

-- There is such a table.
pub own_numbers_length : length own_numbers ≡ table_length
unfolding own_numbers
own_numbers_length = length-tabulate (λ a. a) 0 table_length

pub own_numbers_entry : (a : ℕ) → a < table_length → get_or own_numbers a 0 ≡ a
unfolding own_numbers
own_numbers_entry a l = get_or-tabulate (λ b. b) 0 table_length a l ∙ zero-add a

-- The checks in order 2, by a table of 256 entries, are those in order 0 of the row of ranks, where the table t is not measured.
pub row_checked : (table t x : List ℕ) → length table ≡ table_length → (after : ℕ → Answer) →
    ranked_checked (length x) 2 (length table) (after (length x)) ≡ ranked_checked (length (rank_row table x)) 0 (length t) (after (length (rank_row table x)))
row_checked table t x fits after =
    ranked_as (length x) 2 (length table) (omega arith) (λ e. fits) (after (length x)) ∙
    ap (λ (n : ℕ). ranked_checked n 0 (length t) (after n)) (sym (row_length table x))

-- The row has as many letters as the text in every order.
pub row_in_length : (order : ℕ) (table x : List ℕ) → length (row_in order table x) ≡ length x
row_in_length order table x = go (uses_table order)
  where
    go : (u : Bool) → length (cond u (rank_row table x) x) ≡ length x
    go true = row_length table x
    go false = refl

module _ (order : ℕ) (table : List ℕ) where
  pub rank_table_length : length (rank_table order table) ≡ table_length
  unfolding rank_table
  rank_table_length = length-tabulate (rank_in order table) 0 table_length

  pub rank_table_entry : (a : ℕ) → a < table_length → get_or (rank_table order table) a 0 ≡ rank_in order table a
  unfolding rank_table
  rank_table_entry a l = get_or-tabulate (rank_in order table) 0 table_length a l ∙ ap (rank_in order table) (zero-add a)

  -- The ranks of an order are bytes.
  pub rank_table_bytes : Bytes table → Bytes (rank_table order table)
  rank_table_bytes ranks = bytes_inside (rank_table order table) (λ i l. at i (omega (arith, rank_table_length)))
    where
      small : (u v : Bool) (a : ℕ) → a < table_length → cond u (cond v (get_or table a 0) a) a < table_length
      small true true a l = ranks.byte a
      small true false a l = l
      small false v a l = l

      at : (i : ℕ) → i < table_length → get_or (rank_table order table) i 0 < table_length
      at i l = subst (λ (r : ℕ). r < table_length) (sym (rank_table_entry i l)) (small (uses_table order) (eqb (length table) table_length) i l)

  -- By the ranks of an order the row is that of the order, if the table has 256 entries where it is used.
  pub rank_table_row : (x : List ℕ) → Bytes x → (uses_table order ≡ true → length table ≡ table_length) → rank_row (rank_table order table) x ≡ row_in order table x
  rank_table_row x bytes fits = go (uses_table order) refl
    where
      entry : (i : ℕ) → rank_by (rank_table order table) (get_or x i 0) ≡ rank_in order table (get_or x i 0)
      entry i = rank_table_entry (get_or x i 0) (bytes.byte i)

      go : (u : Bool) → uses_table order ≡ u → rank_row (rank_table order table) x ≡ cond u (rank_row table x) x
      go true e = rows_agree (rank_table order table) table x (λ i l. entry i ∙ simp (e, eq-eqb (length table) table_length (fits e)))
      go false e = own_row (rank_table order table) x (λ i l. entry i ∙ simp e)

module _ (table : List ℕ) where
  pub turned_table_length : length (turned_table table) ≡ table_length
  unfolding turned_table
  turned_table_length = length-tabulate (λ b. 255 - get_or table b 0) 0 table_length

  pub turned_entry : (a : ℕ) → a < table_length → get_or (turned_table table) a 0 ≡ 255 - get_or table a 0
  unfolding turned_table
  turned_entry a l = get_or-tabulate (λ b. 255 - get_or table b 0) 0 table_length a l ∙ ap (λ (b : ℕ). 255 - get_or table b 0) (zero-add a)

  -- By a table turned round the letters compare as they do by the table in falling order.
  module _ (x : List ℕ) (text : Bytes x) (ranks : Bytes table) where
    key : (i : ℕ) → i < length x → letters 0 (rank_row (turned_table table) x) i ≡ 255 - letters 0 (rank_row table x) i
    key i l =
        row_letter (turned_table table) x i l ∙ turned_entry (get_or x i 0) (text.byte i) ∙
        ap (λ (r : ℕ). 255 - r) (sym (row_letter table x i l))

    low : (i : ℕ) → i < length x → letters 0 (rank_row table x) i < table_length
    low i l = subst (λ (r : ℕ). r < table_length) (sym (row_letter table x i l)) (ranks.byte (get_or x i 0))

    pub turned_there : Carries falling rising (letters 0 (rank_row table x)) (letters 0 (rank_row (turned_table table) x)) (length x)
    turned_there =
        record {
          equal = λ i j a b e. key i a ∙ ap (λ (r : ℕ). 255 - r) e ∙ sym (key j b);
          smaller = λ i j a b s. (λ z. omega (arith, key i a, key j b, low i a, low j b, s.1), omega (arith, key i a, key j b, low i a, low j b, s.1));
        }

    pub turned_back : Carries rising falling (letters 0 (rank_row (turned_table table) x)) (letters 0 (rank_row table x)) (length x)
    turned_back =
        record {
          equal = λ i j a b e. omega (arith, key i a, key j b, low i a, low j b, e);
          smaller = λ i j a b s. (λ z. omega (arith, key i a, key j b, s.1), omega (arith, key i a, key j b, s.1));
        }

    pub turned_alike : OrderedAlike rising falling 0 0 (rank_row (turned_table table) x) (rank_row table x)
    turned_alike =
        let same : length (rank_row (turned_table table) x) ≡ length x = row_length (turned_table table) x in
        record {
          size = row_length table x ∙ sym same;
          there =
              subst (λ (n : ℕ). Carries rising falling (letters 0 (rank_row (turned_table table) x)) (letters 0 (rank_row table x)) n) (sym same) turned_back;
          back =
              subst (λ (n : ℕ). Carries falling rising (letters 0 (rank_row table x)) (letters 0 (rank_row (turned_table table) x)) n) (sym same) turned_there;
        }

-- What the answer of a test for different ranks says.
module _ (table : List ℕ) (a b : ℕ) {r : Bool} (e : r ≡ rank_differs table a b) where
  pub ranks_differ : r ≡ true → ¬ (rank_by table a ≡ rank_by table b)
  ranks_differ t = eqb-false (rank_by table a) (rank_by table b) (not-true (eqb (rank_by table a) (rank_by table b)) (sym e ∙ t))

  pub ranks_agree : r ≡ false → rank_by table a ≡ rank_by table b
  ranks_agree f = eqb-true (rank_by table a) (rank_by table b) (not-false (eqb (rank_by table a) (rank_by table b)) (sym e ∙ f))

-- Place i of one text and place j of another, compared by rank: r says whether the ranks differ.
module _ (table x y : List ℕ) (i j : ℕ) (p : i < length x) (q : j < length y) {r : Bool} (e : r ≡ rank_differs table (get_or x i 0) (get_or y j 0)) where
  pub places_agree : r ≡ false → get_or (rank_row table x) i 0 ≡ get_or (rank_row table y) j 0
  places_agree same = row_letter table x i p ∙ ranks_agree table (get_or x i 0) (get_or y j 0) e same ∙ sym (row_letter table y j q)

  pub places_differ : r ≡ true → ¬ (get_or (rank_row table x) i 0 ≡ get_or (rank_row table y) j 0)
  places_differ differ z =
      ranks_differ table (get_or x i 0) (get_or y j 0) e differ (sym (row_letter table x i p) ∙ z ∙ row_letter table y j q)

-- The row of the rest of a text from m on is the rest of its row.
row_drop : (table x : List ℕ) (m : ℕ) → rank_row table (drop m x) ≡ drop m (rank_row table x)
row_drop table x zero = refl
row_drop table [] (suc m) = refl
row_drop table (a ∷ x) (suc m) = row_drop table x m

pub row_rest : (table x : List ℕ) (m : ℕ) → rank_row table (take (length x - m) (drop m x)) ≡ drop m (rank_row table x)
row_rest table x m = ap (rank_row table) (take_all (length x - m) (drop m x) (omega (arith, length-drop m x))) ∙ row_drop table x m
