-- The built-in tables have a rank for each byte. In table 1 a letter of either case has the number of its capital; of table 0, which gives each
-- byte its own number, `RankLaws` has the laws.
-- Assumes nothing.
use Rattle.std.specs.Prelude.{◌≡◌, Bool, true, false, cond, ℕ, ◌-◌, ◌<◌, ◌≤◌, eqb, length}
use Rattle.std.proofs.Common.{sym, ap, ◌∙◌, zero-add, arith, le-leb}
use Rattle.std.proofs.lemmas.Bool.{lt-leb}
use Rattle.words.specs.Laws.Tabulate.{length-tabulate, get_or-tabulate}
use Rattle.answer.specs.Limits.{table_length}
use Rattle.letters.specs.Ranks.{rank_by, own_numbers}
use Rattle.letters.specs.RankLaws.{own_numbers_length}
use Rattle.letters.specs.BuiltIn.{folded_rank, folded_numbers, built_in_table}

pub folded_length : length folded_numbers ≡ table_length
unfolding folded_numbers
folded_length = length-tabulate folded_rank 0 table_length

folded_entry : (a : ℕ) → a < table_length → rank_by folded_numbers a ≡ folded_rank a
unfolding folded_numbers
folded_entry a l = get_or-tabulate folded_rank 0 table_length a l ∙ ap folded_rank (zero-add a)

-- Table 1: the bytes before a to z have their own numbers, A to Z among them.
pub folded_before : (a : ℕ) → a < 97 → rank_by folded_numbers a ≡ a
folded_before a l = folded_entry a (omega arith) ∙ simp (lt-leb 97 a l)

-- a to z have those of A to Z.
pub folded_letter : (a : ℕ) → 97 ≤ a → a ≤ 122 → rank_by folded_numbers a ≡ rank_by folded_numbers (a - 32)
folded_letter a l m =
    let capital : a - 32 ≡ rank_by folded_numbers (a - 32) = sym (folded_before (a - 32) (omega arith)) in
    folded_entry a (omega arith) ∙ simp (le-leb 97 a l, le-leb a 122 m) capital

-- And the bytes behind them have their own.
pub folded_behind : (a : ℕ) → 122 < a → a < table_length → rank_by folded_numbers a ≡ a
folded_behind a l m = folded_entry a m ∙ simp (le-leb 97 a (omega arith), lt-leb a 122 l)

-- Both tables have 256 entries.
pub built_in_length : (number : ℕ) → length (built_in_table number) ≡ table_length
built_in_length number = go (eqb number 0)
  where
    go : (b : Bool) → length (cond b own_numbers folded_numbers) ≡ table_length
    go true = own_numbers_length
    go false = folded_length
