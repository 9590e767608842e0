-- `factors::lyndon::is_lyndon` meets its contract: the period of one scan is compared with the length.
-- Assumes nothing.
use borrow.Author.Rules.{rules}
use native.Mathlib.Omega.{arith}
use Rattle.letters.specs.RankLaws.{fitting_bytes}
use Rattle.factors.proofs.LyndonScan.{scanned_lyndon}
use Rattle.factors.proofs.lyndon.is_lyndon.Goals as goal

-- The text has bytes.
pub returns : goal.returns
returns c =
    record {
      answer = scanned_lyndon c.args.text.now (fitting_bytes c.type_inv.text) c.table-keys.ensures.entries c.scan.ensures.stretch (search rules) (omega arith);
    }
