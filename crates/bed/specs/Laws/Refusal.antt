-- The line of a refusal, by the places that there are for it.
-- Assumes nothing.
use Rattle.std.specs.Prelude.{◌≡◌, [], ℕ, ◌≤◌, ◌<◌}
use Rattle.std.proofs.Common.{lt-ltb, le-ltb}
use Rattle.bed.specs.Limits.{max_refusal}
use Rattle.bed.specs.Refusal.{refusal_line, refusal_fitting}

-- With places for the longest line it is written,
pub refusal_fits : (n p places : ℕ) → max_refusal ≤ places → refusal_fitting n p places ≡ refusal_line n p
refusal_fits n p places h = simp (le-ltb places max_refusal h)

-- and with fewer it is not.
pub refusal_unfit : (n p places : ℕ) → places < max_refusal → refusal_fitting n p places ≡ []
refusal_unfit n p places h = simp (lt-ltb places max_refusal h)
