-- Bytes that go step by step from a reader into a buffer.
-- Assumes nothing.
use Rattle.std.proofs.Common.{◌≡◌, ℕ, ◌+◌, ◌≤◌, List, ◌++◌, length, take, sym, ap, ◌∙◌}
use Rattle.std.proofs.lemmas.List.{take-append-le}
use Rattle.std.proofs.Math.Seq.{take-append-add, length-take-le}

-- A buffer whose part behind its first a places was read into: with the k bytes that were given.
pub read_more : (a k : ℕ) (xs ys rest : List ℕ) → a ≤ length xs → k ≤ length ys → take (a + k) (take a xs ++ (ys ++ rest)) ≡ take a xs ++ take k ys
read_more a k xs ys rest h l =
    ap (λ (n : ℕ). take (n + k) (take a xs ++ (ys ++ rest))) (sym (length-take-le a xs h)) ∙ take-append-add (take a xs) (ys ++ rest) k
    ∙ ap (λ (zs : List ℕ). take a xs ++ zs) (take-append-le k ys rest l)
