-- `fasta::letters::write_letters` meets its contract: each letter is stored, any other byte is passed over.
-- Assumes nothing.
use Rattle.std.proofs.Common.{◌≡◌, arith, rules}
use Rattle.fasta.proofs.Reading.{none_stored, letter_fits, letter_stored, other_passed, all_stored}
use Rattle.fasta.proofs.letters.write_letters.Goals as goal
use Rattle.fasta.proofs.letters.write_letters.Goals.{in-Letter, in_default}

pub loop-byte-init : goal.loop-byte-init
loop-byte-init c = none_stored _ _ c.requires

pub bounds-letters-count : goal.bounds-letters-count
bounds-letters-count c = search letter_fits

pub loop-byte-preserved : goal.loop-byte-preserved
loop-byte-preserved c = elim c.match-from.branch [
  | in-Letter w ↦ rw (w.letters-is, w.count-is) (search letter_stored)
  | in_default w ↦
      let same : c.match-from.count ≡ c.loop-byte.count = omega (arith, w.count-is) in
      rw (w.letters-is, same) (search other_passed)
]

pub returns : goal.returns
returns c = record { content = all_stored c.loop-byte.invariant (search rules) }
