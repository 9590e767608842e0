-- The checks of document 01's table ("Where each check stands") and of document 02, each with what follows where it does not refuse.
-- Assumes nothing.
use Rattle.std.specs.Prelude.{◌≡◌, Bool, true, not, ◌&&◌, ℕ, ltb, eqb, ⊤, Result, Ok, Err}
use Rattle.answer.specs.declared.Refused.{Refused}
use Rattle.answer.specs.declared.Reason.TheVariants.{EmptyText, TextTooLong, UnknownOrder, ShortOutput, ShortWork, FileTooLong}
use Rattle.answer.specs.declared.Reason.TheVariants.{WrongTable, NotLyndon, UnknownTable, UnwrittenTable}
use Rattle.answer.specs.declared.Answer.{Answer}
use Rattle.answer.specs.Answers.{refused_by, refused_if}
use Rattle.answer.specs.Limits.{max_length, max_letters, max_input, run_list_length, prefix_count, work_length, ranked_order, table_length}

-- Refusal 1: a text or array of n letters or entries.
abbrev pub empty_checked : ℕ → Answer → Answer
empty_checked n = refused_if (eqb n 0) EmptyText 0

-- Refusal 2: at most `limit` of them.
abbrev pub limit_checked : ℕ → ℕ → Answer → Answer
limit_checked limit n = refused_if (ltb limit n) TextTooLong 0

-- Refusals 1 and 2.
abbrev pub length_checked : ℕ → ℕ → Answer → Answer
length_checked limit n rest = empty_checked n (limit_checked limit n rest)

-- Refusal 3: the order number, at most `last`.
abbrev pub order_checked : ℕ → ℕ → Answer → Answer
order_checked last order = refused_if (ltb last order) UnknownOrder 0

-- The table is used in an order: in order 2.
abbrev pub uses_table : ℕ → Bool
uses_table order = eqb order ranked_order

-- Refusal 16: a rank table that is used has 256 entries.
abbrev pub table_checked : Bool → ℕ → Answer → Answer
table_checked used entries = refused_if (used && not (eqb entries table_length)) WrongTable 0

-- Refusal 21: the table of a store that a call names exists, and its group does (document 02, E9).
abbrev pub existence_checked : Bool → Answer → Answer
existence_checked exists = refused_if (not exists) UnknownTable 0

-- Refusal 22: it can be used, being a built-in table or one that was written (document 02, E9).
abbrev pub usable_checked : Bool → Answer → Answer
usable_checked usable = refused_if (not usable) UnwrittenTable 0

-- Refusal 4: an output buffer that has `given` places and needs `needed`.
abbrev pub output_checked : ℕ → ℕ → Answer → Answer
output_checked needed given = refused_if (ltb given needed) ShortOutput 0

-- Refusal 17: a text that must be a Lyndon word is one (document 02, E5).
abbrev pub lyndon_checked : Bool → Answer → Answer
lyndon_checked holds = refused_if (not holds) NotLyndon 0

-- Refusal 5: the work buffer.
abbrev pub work_checked : ℕ → ℕ → Answer → Answer
work_checked needed given = refused_if (ltb given needed) ShortWork 0

-- Refusal 15: the input of the reader, of n bytes.
abbrev pub input_checked : ℕ → Answer → Answer
input_checked n = refused_if (ltb max_input n) FileTooLong max_input

-- 1, 2 and 4: a call on n letters or entries that needs as many places.
abbrev pub text_checked : ℕ → ℕ → Answer → Answer
text_checked n given rest = length_checked max_length n (output_checked n given rest)

-- 1, 2, 3 and 4: such a call that has an order number, 0 or 1.
abbrev pub ordered_text_checked : ℕ → ℕ → ℕ → Answer → Answer
ordered_text_checked n order given rest = length_checked max_length n (order_checked 1 order (output_checked n given rest))

-- 1 for either text, then 2 for either text: a call on two texts, of m and n letters (document 02, E5).
abbrev pub two_texts_checked : ℕ → ℕ → Answer → Answer
two_texts_checked m n rest = empty_checked m (empty_checked n (limit_checked max_length m (limit_checked max_length n rest)))

-- 1, 2 and 4: a call on a word of n letters that needs a place for each of its proper non-empty prefixes (document 02, E5).
abbrev pub prefixes_checked : ℕ → ℕ → Answer → Answer
prefixes_checked n given rest = length_checked max_length n (output_checked (prefix_count n) given rest)

-- 1, 2, 4 and 17: such a call on letters that must be a Lyndon word (document 02, E5).
abbrev pub lyndon_word_checked : ℕ → ℕ → Bool → Answer → Answer
lyndon_word_checked n given holds rest = prefixes_checked n given (lyndon_checked holds rest)

-- 1, 2, 3 and 16: a call on n letters that has an order number, 0 to 2, and a rank table.
abbrev pub ranked_checked : ℕ → ℕ → ℕ → Answer → Answer
ranked_checked n order entries rest = length_checked max_length n (order_checked ranked_order order (table_checked (uses_table order) entries rest))

-- 1, 2, 3, 16 and 4: such a call that needs n places.
abbrev pub ranked_text_checked : ℕ → ℕ → ℕ → ℕ → Answer → Answer
ranked_text_checked n order entries given rest = ranked_checked n order entries (output_checked n given rest)

-- 1, 2, 3, 16 and 4, of both buffers: a forest of n letters in such an order.
abbrev pub ranked_forest_checked : ℕ → ℕ → ℕ → ℕ → ℕ → Answer → Answer
ranked_forest_checked n order entries first past rest = ranked_text_checked n order entries first (output_checked n past rest)

-- 1, 2 and 4, of both buffers: a forest of n letters or entries.
abbrev pub forest_checked : ℕ → ℕ → ℕ → Answer → Answer
forest_checked n first past rest = text_checked n first (output_checked n past rest)

-- 1, 2, 4 and 5: the runs of n letters, with the lengths of the list and of the work buffer.
abbrev pub runs_checked : ℕ → ℕ → ℕ → Answer → Answer
runs_checked n list work rest = length_checked max_length n (output_checked (run_list_length n) list (work_checked (work_length n) work rest))

-- 1, 2, 16, 4 and 5: the runs of n letters by a rank table.
abbrev pub ranked_runs_checked : ℕ → ℕ → ℕ → ℕ → Answer → Answer
ranked_runs_checked n entries list work rest =
    length_checked max_length n (table_checked true entries (output_checked (run_list_length n) list (work_checked (work_length n) work rest)))

-- 21 and 22: a call that uses or reads a table of a store.
abbrev pub table_use_checked : Bool → Bool → Answer → Answer
table_use_checked exists usable rest = existence_checked exists (usable_checked usable rest)

-- 21 and 16: a call that writes a table of a store.
abbrev pub table_write_checked : Bool → ℕ → Answer → Answer
table_write_checked exists entries rest = existence_checked exists (table_checked true entries rest)

-- 4 and 15: the reader, on an input of n bytes.
abbrev pub reader_checked : ℕ → ℕ → Answer → Answer
reader_checked n given rest = output_checked max_letters given (input_checked n rest)

-- What the checks of a call say: nothing, or the first refusal.
abbrev pub Check : Type 0
Check = Result ⊤ Refused

-- The answer where `rest` follows the checks.
abbrev pub answer_to : Check → Answer → Answer
answer_to (Ok passed) rest = rest
answer_to (Err refusal) rest = refused_by refusal

-- What the checks of a call say is that of a check: its refusal where it refuses, else nothing.
pub record Refuses (said : Check) (check : Answer → Answer) : Type 0 where
  pub answer : (rest : Answer) → answer_to said rest ≡ check rest
