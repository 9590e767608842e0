-- A text in the front of a buffer, and what is written behind it.
-- Assumes nothing.
use Rattle.std.specs.Prelude.{◌≡◌, refl, List, [], ◌++◌, ℕ, ◌+◌, ◌≤◌, length}
use Rattle.std.proofs.Common.{◌∙◌}
use Rattle.answer.specs.Content.{Written}
use Rattle.answer.specs.ContentLaws.{written_append, written_as, written_room, written_size, written_none}
use Rattle.bed.specs.declared.text.Text.{Text}

-- The buffer has places for n bytes more.
abbrev pub Room : Text → ℕ → Type 0
Room t n = t.len + n ≤ length t.out.now

-- The list l has been written behind the text, in the same buffer.
pub record Wrote (before after : Text) (l : List ℕ) : Type 0 where
  pub same_buffer : after.out.ghost_name ≡ before.out.ghost_name
  pub written : Written before.out.now after.out.now before.len after.len l

-- One list and then another behind it.
pub wrote_then : {a b c : Text} {l k : List ℕ} → Wrote a b l → Wrote b c k → Wrote a c (l ++ k)
wrote_then v w = record { same_buffer = w.same_buffer ∙ v.same_buffer; written = written_append v.written w.written }

-- An equal list.
pub wrote_as : {a b : Text} {l k : List ℕ} → Wrote a b l → l ≡ k → Wrote a b k
wrote_as w e = record { same_buffer = w.same_buffer; written = written_as w.written e }

-- The buffer is as long as before.
pub wrote_size : {a b : Text} {l : List ℕ} → Wrote a b l → length b.out.now ≡ length a.out.now
wrote_size w = written_size w.written

-- Nothing is written.
pub wrote_none : (a : Text) → a.len ≤ length a.out.now → Wrote a a []
wrote_none a h = record { same_buffer = refl; written = written_none a.out.now a.len h }

-- The places that are left behind it.
pub wrote_room : {a b : Text} {l : List ℕ} (n : ℕ) → Wrote a b l → Room a (length l + n) → Room b n
wrote_room n w h = written_room w.written n h

-- What is written in all, from an empty text on.
pub wrote_all : {first last : Text} {b : List ℕ} {l k : List ℕ} → Wrote first last l → first.out.now ≡ b → first.len ≡ 0 → l ≡ k → Written b last.out.now 0 last.len k
wrote_all {first} {last} {b} {l} {k} w bytes none e =
    rw (← bytes, ← none, ← e) w.written
