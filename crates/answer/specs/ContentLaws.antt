-- Buffers written step by step: nothing, one store, one part behind another, and what the whole is.
-- Assumes nothing.
use Rattle.std.specs.Prelude.{◌≡◌, refl, List, [], ◌∷◌, ◌++◌, ℕ, suc, ◌+◌, ◌-◌, ◌<◌, ◌≤◌, length, get_or, set, take, drop}
use Rattle.std.proofs.Common.{sym, ap, subst, ◌∙◌, arith, zero-add, add-one, length-set, length-append, length-drop}
use Rattle.std.proofs.Common.{ext_get_or, get_or-set_same, get_or-set_other, get_or-append-add, get_or-drop}
use Rattle.std.proofs.Math.Decide.{ℕ_discrete, dec_lt}
use Rattle.std.proofs.Math.ListN.{get_or-append}
use Rattle.std.proofs.lemmas.List.Edits.{sets, sets-eq}
use Rattle.std.proofs.Math.Seq.{length-sets}
use Rattle.words.specs.Tabulate.{tabulate}
use Rattle.words.specs.Laws.Tabulate.{length-tabulate, get_or-tabulate}
use Rattle.answer.specs.AfterCall.{written}
use Rattle.answer.specs.Limits.{Sized}
use Rattle.answer.specs.Content.{Kept, From, Stored, Holds, Written, Pending, TextRoom}

module _ {P : ℕ → Type 0} where
  -- Nothing is written.
  pub kept_all : (b : List ℕ) → Kept P b b
  kept_all b = record { size = refl; kept = λ t p. refl }

  -- What two steps keep.
  pub kept_then : {b m a : List ℕ} → Kept P b m → Kept P m a → Kept P b a
  kept_then v w = record { size = w.size ∙ v.size; kept = λ t p. w.kept t p ∙ v.kept t p }

  -- Fewer places.
  pub kept_where : {Q : ℕ → Type 0} {b a : List ℕ} → Kept P b a → ((t : ℕ) → Q t → P t) → Kept Q b a
  kept_where w f = record { size = w.size; kept = λ t q. w.kept t (f t q) }

  -- A store at another place.
  pub kept_set : (b : List ℕ) (i v : ℕ) → ((t : ℕ) → P t → ¬ (t ≡ i)) → Kept P b (set b i v)
  kept_set b i v f = record { size = length-set b i v; kept = λ t p. get_or-set_other b i t v 0 (f t p) }

-- One store.
pub stored : (b : List ℕ) (i v : ℕ) → i < length b → Stored i v b (set b i v)
stored b i v h = record { here = get_or-set_same b i v 0 h; others = kept_set b i v (λ t p. p) }

module _ (l before : List ℕ) (t : ℕ) where
  -- A place of a buffer into which l was written, inside l.
  pub written_value : t < length l → get_or (written l before) t 0 ≡ get_or l t 0
  written_value q = get_or-append l (drop (length l) before) 0 t q

  -- A place past it.
  written_past : length l ≤ t → get_or (written l before) t 0 ≡ get_or before t 0
  written_past p =
      let k : length l + (t - length l) ≡ t = omega arith in
      ap (λ (j : ℕ). get_or (written l before) j 0) (sym k) ∙ get_or-append-add l (drop (length l) before) (t - length l) 0 ∙
      get_or-drop (length l) before (t - length l) 0 ∙ ap (λ (j : ℕ). get_or before j 0) k

-- Its places past l are as before.
pub written_kept : (l before : List ℕ) (n : ℕ) → length l ≡ n → n ≤ length before → Kept (From n) before (written l before)
written_kept l before n e h =
    record {
      size = omega (arith, length-append l (drop (length l) before), length-drop (length l) before);
      kept = λ t p. written_past l before t (omega arith);
    }

-- A buffer with the entries of a list of n at its first places, and all else as before, is one into which the list was written.
pub written_places : (l : List ℕ) (n : ℕ) (before after : List ℕ) → length l ≡ n → n ≤ length before → Kept (From n) before after →
    ((t : ℕ) → t < n → get_or after t 0 ≡ get_or l t 0) → after ≡ written l before
written_places l n before after e h rest value =
    ext_get_or 0 after (written l before) (omega (arith, rest.size, (written_kept l before n e h).size)) (λ t q. at t (dec_lt t n))
  where
    at : (t : ℕ) → Dec (t < n) → get_or after t 0 ≡ get_or (written l before) t 0
    at t (yes q) = value t q ∙ sym (written_value l before t (omega arith))
    at t (no q) = rest.kept t (omega arith) ∙ sym (written_past l before t (omega arith))

module _ (f : ℕ → ℕ) (before : List ℕ) where
  pub holds_none : Holds f 0 before before
  holds_none = record { value = λ t q. absurd (omega arith); others = kept_all before }

  -- One place more.
  pub holds_more : (n v : ℕ) (now : List ℕ) → Holds f n before now → n < length before → v ≡ f n → Holds f (n + 1) before (set now n v)
  holds_more n v now w h e =
      record {
        value = λ t q. at t q (ℕ_discrete t n);
        others = kept_then (kept_where w.others (λ t p. omega arith)) (kept_set now n v (λ t p q. omega arith));
      }
    where
      at : (t : ℕ) → t < n + 1 → Dec (t ≡ n) → get_or (set now n v) t 0 ≡ f t
      at t q (yes r) = ap (λ (k : ℕ). get_or (set now n v) k 0) r ∙ get_or-set_same now n v 0 (omega (arith, w.others.size)) ∙ e ∙ ap f (sym r)
      at t q (no r) = get_or-set_other now n t v 0 r ∙ w.value t (omega arith)

  -- The values of f were written.
  pub holds_written : (n : ℕ) (after : List ℕ) → Holds f n before after → n ≤ length before → after ≡ written (tabulate f 0 n) before
  holds_written n after w h =
      written_places (tabulate f 0 n) n before after (length-tabulate f 0 n) h w.others
      (λ t q. w.value t q ∙ sym (get_or-tabulate f 0 n t q ∙ ap f (zero-add t)))

-- Places written a second time.
pub holds_again : {f g : ℕ → ℕ} {n : ℕ} {before now after : List ℕ} → Holds f n before now → Holds g n now after → Holds g n before after
holds_again v w = record { value = w.value; others = kept_then v.others w.others }

-- A store of two lists together is a store of one and then of the other behind it.
sets_append : (b : List ℕ) (i : ℕ) (l m : List ℕ) → sets b i (l ++ m) ≡ sets (sets b i l) (i + length l) m
sets_append b i [] m =
    let e : i + 0 ≡ i = omega arith in
    rw e
sets_append b i (a ∷ l) m =
    let e : i + suc (length l) ≡ suc i + length l = omega arith in
    rw e (sets_append (set b i a) (suc i) l m)

-- A row of stores writes a list.
pub written_sets : (b a : List ℕ) (at next : ℕ) (l : List ℕ) → a ≡ sets b at l → next ≡ at + length l → next ≤ length b → Written b a at next l
written_sets b a at next l e p h =
    record {
      past = p;
      fits = h;
      content = e ∙ sets-eq l b at (omega (arith, p)) ∙ ap (λ (k : ℕ). take at b ++ l ++ drop k b) (sym p);
    }

-- And no list is written otherwise.
written_stores : {b a : List ℕ} {at next : ℕ} {l : List ℕ} → Written b a at next l → a ≡ sets b at l
written_stores {b} {at = at} {l = l} w =
    w.content ∙ ap (λ (k : ℕ). take at b ++ l ++ drop k b) w.past ∙ sym (sets-eq l b at (omega (arith, w.past, w.fits)))

-- Nothing is written.
pub written_none : (b : List ℕ) (at : ℕ) → at ≤ length b → Written b b at at []
written_none b at h = written_sets b b at at [] refl (omega arith) h

-- One store.
pub written_one : (b : List ℕ) (at v : ℕ) → at < length b → Written b (set b at v) at (at + 1) (v ∷ [])
written_one b at v h = written_sets b (set b at v) at (at + 1) (v ∷ []) refl refl (omega arith)

-- Three stores in a row.
pub written_three : (b : List ℕ) (at u v w next : ℕ) → next ≡ at + 3 → next ≤ length b →
    Written b (set (set (set b at u) (at + 1) v) (at + 2) w) at next (u ∷ v ∷ w ∷ [])
written_three b at u v w next e h =
    written_sets b (set (set (set b at u) (at + 1) v) (at + 2) w) at next (u ∷ v ∷ w ∷ [])
    (let f : at + 2 ≡ suc (suc at) = omega arith in
    rw (add-one at, f)) e h

module _ {b m : List ℕ} {at n : ℕ} {l : List ℕ} (v : Written b m at n l) where
  -- The buffer is as long as before.
  pub written_size : length m ≡ length b
  written_size = ap length (written_stores v) ∙ length-sets b at l

  -- The room that is left behind l.
  pub written_room : (rest : ℕ) → at + (length l + rest) ≤ length b → n + rest ≤ length m
  written_room rest h = omega (arith, v.past, written_size)

  -- What is written behind l is written with it.
  pub written_append : {a : List ℕ} {o : ℕ} {k : List ℕ} → Written m a n o k → Written b a at o (l ++ k)
  written_append {a} {o} {k} w =
      written_sets b a at o (l ++ k) (rw (written_stores v, v.past) at (written_stores w) ∙ sym (sets_append b at l k))
      (omega (arith, length-append l k, v.past, w.past)) (omega (arith, w.fits, written_size))

  -- It has its place there.
  pub written_within : n ≤ length m
  written_within = omega (arith, v.fits, written_size)

  -- An equal list.
  pub written_as : {k : List ℕ} → l ≡ k → Written b m at n k
  written_as e = subst (Written b m at n) e v

-- What is written from the start on.
pub written_whole : {b a : List ℕ} {n : ℕ} {l : List ℕ} → Written b a 0 n l → a ≡ written l b
written_whole {b} {l = l} w =
    let e : 0 + length l ≡ length l = omega arith in
    w.content ∙ ap (λ (k : ℕ). l ++ drop k b) (w.past ∙ e)

-- At the start all is pending.
pub pending_all : (b : List ℕ) (at : ℕ) (l : List ℕ) → Pending b at l b at l
pending_all b at l = record { completed = λ a next w. w }

-- Once l is written, k is pending.
pub pending_rest : {b m b₀ : List ℕ} {at n at₀ : ℕ} {l k l₀ : List ℕ} → Pending b at (l ++ k) b₀ at₀ l₀ → Written b m at n l → Pending m n k b₀ at₀ l₀
pending_rest p v = record { completed = λ a next w. p.completed a next (written_append v w) }

-- Where nothing is pending, all is written.
pub pending_none : {b b₀ : List ℕ} {at at₀ : ℕ} {l₀ : List ℕ} → Pending b at [] b₀ at₀ l₀ → at ≤ length b → Written b₀ b at₀ at l₀
pending_none {b} {at = at} p h = p.completed b at (written_none b at h)

-- A text within the limits, and a buffer that is long enough.
pub sized_room : {text out : List ℕ} → Sized (length text) → length text ≤ length out → TextRoom text out
sized_room sized h = record { short = sized.short; places = h }

-- A buffer with room for a text has room for another of that length.
pub same_room : {x y out : List ℕ} → length y ≡ length x → TextRoom x out → TextRoom y out
same_room e room = record { short = omega (arith, room.short); places = omega (arith, room.places) }
