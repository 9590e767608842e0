-- Spans of one text compared by positions. A text is read as a function from positions to letters.
-- Assumes nothing.
use Rattle.std.specs.Prelude.{◌≡◌, ℕ, ◌+◌, ◌<◌}
use Rattle.words.specs.Letters.{Letters, Smaller}

-- The letters from i and from j on are the same below offset d.
abbrev pub Agree {ℓ} : {A : Type ℓ} → (ℕ → A) → ℕ → ℕ → ℕ → Type ℓ
Agree x i j d = (k : ℕ) → k < d → x (i + k) ≡ x (j + k)

-- What stands at i in a sequence without end is below what stands at j.
pub record BelowFrom {ℓ κ} {A : Type ℓ} (O : Letters {ℓ, κ} A) (x : ℕ → A) (i j : ℕ) : Type (ℓ ⊔ κ) where
  pub offset : ℕ
  pub agree : Agree x i j offset
  pub smaller : Smaller O (x (i + offset)) (x (j + offset))

-- What stands at i is below what stands at j: they agree up to an offset inside the span that ends at e, and there i has the smaller letter.
pub record BelowWithin {ℓ κ} {A : Type ℓ} (O : Letters {ℓ, κ} A) (x : ℕ → A) (i j e : ℕ) : Type (ℓ ⊔ κ) where
  pub offset : ℕ
  pub inside : j + offset < e
  pub agree : Agree x i j offset
  pub smaller : Smaller O (x (i + offset)) (x (j + offset))

-- The span from a to b is a Lyndon word, by positions: below each of its proper suffixes by a letter inside it.
pub record SpanLyndon {ℓ κ} {A : Type ℓ} (O : Letters {ℓ, κ} A) (x : ℕ → A) (a b : ℕ) : Type (ℓ ⊔ κ) where
  pub non_empty : a < b
  pub below : (k : ℕ) → a < k → k < b → BelowWithin O x a k b

-- The span from i to e is smaller than the span from j to f, by positions.
pub data SpanLess {ℓ κ} {A : Type ℓ} (O : Letters {ℓ, κ} A) (x : ℕ → A) (i e j f : ℕ) : Type (ℓ ⊔ κ) where
  differs : (d : ℕ) → i + d < e → j + d < f → Agree x i j d → Smaller O (x (i + d)) (x (j + d)) → SpanLess O x i e j f
  shorter : (d : ℕ) → i + d ≡ e → j + d < f → Agree x i j d → SpanLess O x i e j f
