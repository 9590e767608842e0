-- The tables that the code makes are those of the definitions.
-- Assumes nothing.
use mathlib.Core.Path.{◌≡◌, sym, ◌∙◌}
use mathlib.Core.List.{List}
use Prim.Native.Nat.{ℕ, ◌<◌, ◌≤◌, ◌-◌}
use native.Mathlib.Omega.{arith}
use lib.ListN.{length, get_or}
use Rattle.std.proofs.lemmas.List.{ext_get_or}
use Rattle.std.proofs.Common.{eq-eqb}
use borrow.Author.Tests.{ne_eqb}
use Rattle.answer.specs.Content.{Holds}
use Rattle.answer.specs.Limits.{table_length, ranked_order}
use Rattle.letters.specs.Ranks.{own_numbers}
use Rattle.letters.specs.RankLaws.{rank_table_length, rank_table_entry, own_numbers_length, own_numbers_entry, turned_table_length, turned_entry}
use Rattle.letters.specs.Keys.{rank_in, rank_table, turned_table}

module _ (order : ℕ) (table : List ℕ) where
  -- A list of 256 entries that are the ranks of an order is its table.
  made : (ranks : List ℕ) → length ranks ≡ table_length → ((a : ℕ) → a < table_length → get_or ranks a 0 ≡ rank_in order table a) → ranks ≡ rank_table order table
  made ranks l h =
      ext_get_or 0 ranks (rank_table order table) (l ∙ sym (rank_table_length order table))
      (λ a q. let p : a < table_length = omega (arith, l) in h a p ∙ sym (rank_table_entry order table a p))

  -- In order 2 they are those of a table of 256 entries.
  pub by_table : (ranks : List ℕ) → order ≡ ranked_order → length table ≡ table_length → ranks ≡ table → ranks ≡ rank_table order table
  by_table ranks e l r = r ∙ made table l (λ a p. sym (simp (eq-eqb order ranked_order e, eq-eqb (length table) table_length l)))

  -- With a shorter or a longer table, and in another order, they are the bytes' own numbers.
  own : ((a : ℕ) → a ≡ rank_in order table a) → own_numbers ≡ rank_table order table
  own h = made own_numbers own_numbers_length (λ a p. own_numbers_entry a p ∙ h a)

  pub by_number : (ranks : List ℕ) → ¬ (order ≡ ranked_order) → ranks ≡ own_numbers → ranks ≡ rank_table order table
  by_number ranks d r = r ∙ own (λ a. sym (simp (ne_eqb order ranked_order d)))

  pub by_length : (ranks : List ℕ) → order ≡ ranked_order → ¬ (length table ≡ table_length) → ranks ≡ own_numbers → ranks ≡ rank_table order table
  by_length ranks e d r = r ∙ own (λ a. sym (simp (eq-eqb order ranked_order e, ne_eqb (length table) table_length d)))

-- Where each entry is one of the table turned round, they are the table turned round.
pub turned_made : (table keys : List ℕ) (n : ℕ) → Holds (λ b. 255 - get_or table b 0) n table keys → table_length ≤ n → length keys ≡ table_length →
    keys ≡ turned_table table
turned_made table keys n h whole l =
    ext_get_or 0 keys (turned_table table) (l ∙ sym (turned_table_length table))
    (λ a q. let p : a < table_length = omega (arith, l) in h.value a (omega arith) ∙ sym (turned_entry table a p))
