-- Two texts, over whatever letters, whose letters compare alike at every two positions have the same Lyndon array.
-- Assumes nothing.
use Rattle.std.specs.Prelude.{◌≡◌, List, ℕ, ◌+◌, ◌<◌, ◌≤◌, length, get_or}
use Rattle.std.proofs.Common.{sym, ◌∙◌, arith}
use Rattle.words.specs.Letters.{Letters, Smaller}
use Rattle.words.specs.Word.{span}
use Rattle.words.specs.Lyndon.{Lyndon}
use Rattle.words.specs.LyndonArray.{LongestFrom, IsLyndonArray}
use Rattle.words.specs.Laws.Position.{SpanLyndon}
use Rattle.words.specs.Laws.SpanLyndon.{letters, lyndon_span, span_lyndon}

-- What holds of the letters of x at any two of the first n positions holds of those of y: equal, or smaller.
pub record Carries {ℓ κ ℓ' κ'} {A : Type ℓ} {B : Type ℓ'} (O : Letters {ℓ, κ} A) (P : Letters {ℓ', κ'} B) (x : ℕ → A) (y : ℕ → B) (n : ℕ) :
    Type (ℓ ⊔ κ ⊔ ℓ' ⊔ κ') where
  pub equal : (i j : ℕ) → i < n → j < n → x i ≡ x j → y i ≡ y j
  pub smaller : (i j : ℕ) → i < n → j < n → Smaller O (x i) (x j) → Smaller P (y i) (y j)

-- A span that is a Lyndon word stays one.
pub lyndon_carries {ℓ κ ℓ' κ'} : {A : Type ℓ} {B : Type ℓ'} {O : Letters {ℓ, κ} A} {P : Letters {ℓ', κ'} B} {x : ℕ → A} {y : ℕ → B} {n : ℕ}
    → Carries O P x y n → (a b : ℕ) → b ≤ n → SpanLyndon O x a b → SpanLyndon P y a b
lyndon_carries c a b h w =
    record {
      non_empty = w.non_empty;
      below =
          λ k p q.
          let g = w.below k p q in
          record {
            offset = g.offset;
            inside = g.inside;
            agree = λ t l. c.equal (a + t) (k + t) (omega (arith, g.inside)) (omega (arith, g.inside)) (g.agree t l);
            smaller = c.smaller (a + g.offset) (k + g.offset) (omega (arith, g.inside)) (omega (arith, g.inside)) g.smaller;
          };
    }

-- The letters of two texts of one length compare alike; z and w stand past the ends.
pub record OrderedAlike {ℓ κ ℓ' κ'} {A : Type ℓ} {B : Type ℓ'} (O : Letters {ℓ, κ} A) (P : Letters {ℓ', κ'} B) (z : A) (w : B) (x : List A)
    (y : List B) : Type (ℓ ⊔ κ ⊔ ℓ' ⊔ κ') where
  pub size : length y ≡ length x
  pub there : Carries O P (letters z x) (letters w y) (length x)
  pub back : Carries P O (letters w y) (letters z x) (length x)

module _ {ℓ κ ℓ' κ'} {A : Type ℓ} {B : Type ℓ'} {O : Letters {ℓ, κ} A} {P : Letters {ℓ', κ'} B} {z : A} {w : B} {x : List A} {y : List B}
    (alike : OrderedAlike O P z w x y) where
  -- The same spans of both are Lyndon words.
  pub lyndon_there : (a b : ℕ) → b ≤ length x → Lyndon O (span a b x) → Lyndon P (span a b y)
  lyndon_there a b l h = span_lyndon P w y a b (omega (arith, alike.size)) (lyndon_carries alike.there a b l (lyndon_span O z x a b l h))

  pub lyndon_back : (a b : ℕ) → b ≤ length x → Lyndon P (span a b y) → Lyndon O (span a b x)
  lyndon_back a b l h = span_lyndon O z x a b l (lyndon_carries alike.back a b l (lyndon_span P w y a b (omega (arith, alike.size)) h))

  -- So both have the same array.
  pub alike_array : (a : List ℕ) → IsLyndonArray O x a → IsLyndonArray P y a
  alike_array a h = record { size = h.size ∙ sym alike.size; entry = λ i l. carried i (h.entry i (omega (arith, alike.size))) }
    where
      carried : (i : ℕ) → LongestFrom O x i (get_or a i 0) → LongestFrom P y i (get_or a i 0)
      carried i g =
          record {
            fits = omega (arith, alike.size, g.fits);
            lyndon = lyndon_there i (i + get_or a i 0) g.fits g.lyndon;
            longest = λ m p q v. g.longest m p (omega (arith, alike.size)) (lyndon_back i (i + m) (omega (arith, alike.size)) v);
          }
