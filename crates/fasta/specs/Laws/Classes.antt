-- What the sorts of a byte say of its number.
-- Assumes nothing.
use Rattle.std.specs.Prelude.{◌≡◌, refl, Bool, true, false, cond, ◌&&◌, ◌||◌, ℕ, ◌≤◌, ◌<◌, leb, eqb}
use Rattle.std.proofs.Common.{inl, inr, arith, leb-true, leb-false, eqb-true}
use Rattle.std.proofs.lemmas.Bool.{eqb-false}
use Rattle.fasta_record.specs.declared.bytes.Kind.{Kind}
use Rattle.fasta_record.specs.declared.bytes.Kind.TheVariants.{Letter, LineEnd, CarriageReturn, HeaderMark, Unfit}
use Rattle.fasta_record.specs.declared.bytes.NameByte.{NameByte}
use Rattle.fasta_record.specs.declared.bytes.NameByte.TheVariants.{Part, Past, Foreign}
use Rattle.fasta_record.specs.Bytes.{within, kind_of, name_byte_of, header_mark, line_end, carriage_return}
use Rattle.fasta.specs.Classes.{IsLetter, InName, EndsName}

-- What the test of a range says.
abbrev pub WithinSays : ℕ → ℕ → ℕ → Bool → Type 0
WithinSays low high b true = (low ≤ b) × (b ≤ high)
WithinSays low high b false = ¬ ((low ≤ b) × (b ≤ high))

pub within_says : (low high b : ℕ) → WithinSays low high b (within low high b)
within_says low high b = go (leb low b) (leb b high) refl refl
  where
    go : (s t : Bool) → leb low b ≡ s → leb b high ≡ t → WithinSays low high b (s && t)
    go true true h k = (leb-true low b h, leb-true b high k)
    go true false h k = λ r. omega (arith, leb-false b high k)
    go false t h k = λ r. omega (arith, leb-false low b h)

-- What the test of equality says.
abbrev EqualSays : ℕ → ℕ → Bool → Type 0
EqualSays b c true = b ≡ c
EqualSays b c false = ¬ (b ≡ c)

equal_says : (b c : ℕ) → EqualSays b c (eqb b c)
equal_says b c = go (eqb b c) refl
  where
    go : (t : Bool) → eqb b c ≡ t → EqualSays b c t
    go true h = eqb-true b c h
    go false h = eqb-false b c h

-- What the kind of a byte of the sequence lines says.
abbrev pub KindSays : ℕ → Kind → Type 0
KindSays b Letter = IsLetter b
KindSays b LineEnd = b ≡ line_end
KindSays b CarriageReturn = b ≡ carriage_return
KindSays b HeaderMark = b ≡ header_mark
KindSays b Unfit = (¬ IsLetter b) × (¬ (b ≡ line_end)) × (¬ (b ≡ carriage_return)) × (¬ (b ≡ header_mark))

pub kind_says : (b : ℕ) → KindSays b (kind_of b)
kind_says b =
    go (within 65 90 b) (within 97 122 b) (eqb b 10) (eqb b 13) (eqb b 62) (within_says 65 90 b) (within_says 97 122 b) (equal_says b 10)
    (equal_says b 13) (equal_says b 62)
  where
    neither : ¬ ((65 ≤ b) × (b ≤ 90)) → ¬ ((97 ≤ b) × (b ≤ 122)) → IsLetter b → ⊥
    neither n m (inl h) = n h
    neither n m (inr h) = m h

    go : (s t u v w : Bool) → WithinSays 65 90 b s → WithinSays 97 122 b t → EqualSays b 10 u → EqualSays b 13 v → EqualSays b 62 w
        → KindSays b (cond (s || t) Letter (cond u LineEnd (cond v CarriageReturn (cond w HeaderMark Unfit))))
    go true t u v w h i j k l = inl h
    go false true u v w h i j k l = inr i
    go false false true v w h i j k l = j
    go false false false true w h i j k l = k
    go false false false false true h i j k l = l
    go false false false false false h i j k l = (neither h i, j, k, l)

-- What the sort of a byte says that follows '>'.
abbrev pub NameByteSays : ℕ → NameByte → Type 0
NameByteSays b Part = InName b
NameByteSays b Past = EndsName b
NameByteSays b Foreign = (¬ InName b) × (¬ EndsName b)

pub name_byte_says : (b : ℕ) → NameByteSays b (name_byte_of b)
name_byte_says b =
    go (eqb b 32) (eqb b 9) (eqb b 13) (eqb b 10) (within 33 126 b) (equal_says b 32) (equal_says b 9) (equal_says b 13) (equal_says b 10)
    (within_says 33 126 b)
  where
    none : ¬ (b ≡ 32) → ¬ (b ≡ 9) → ¬ (b ≡ 13) → ¬ (b ≡ 10) → EndsName b → ⊥
    none h i j k (inl e) = h e
    none h i j k (inr (inl e)) = i e
    none h i j k (inr (inr (inl e))) = j e
    none h i j k (inr (inr (inr e))) = k e

    go : (s t u v w : Bool) → EqualSays b 32 s → EqualSays b 9 t → EqualSays b 13 u → EqualSays b 10 v → WithinSays 33 126 b w
        → NameByteSays b (cond (s || (t || (u || v))) Past (cond w Part Foreign))
    go true t u v w h i j k l = inl h
    go false true u v w h i j k l = inr (inl i)
    go false false true v w h i j k l = inr (inr (inl j))
    go false false false true w h i j k l = inr (inr (inr k))
    go false false false false true h i j k l = l
    go false false false false false h i j k l = (l, none h i j k)

-- A letter is none of the other bytes of the sequence lines.
pub letter_other : (b c : ℕ) → c < 65 → IsLetter b → ¬ (b ≡ c)
letter_other b c h (inl l) e = omega arith
letter_other b c h (inr l) e = omega arith

-- A byte of a name does not end it.
pub in_name_goes_on : (b : ℕ) → InName b → ¬ EndsName b
in_name_goes_on b h (inl e) = omega arith
in_name_goes_on b h (inr (inl e)) = omega arith
in_name_goes_on b h (inr (inr (inl e))) = omega arith
in_name_goes_on b h (inr (inr (inr e))) = omega arith
