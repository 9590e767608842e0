-- `agreement::common_prefix_singly` meets its contract: the pairs of letters with one rank, as far as the shorter word goes.
-- Assumes nothing.
use Rattle.std.proofs.Common.{◌≡◌, ◌∙◌, ℕ, List, length, take, rules, arith}
use Rattle.std.specs.List.{prefix_len, zip}
use Rattle.std.proofs.lemmas.Iterator.{YieldsList-from_slice, YieldsList-from_zip}
use Rattle.std.proofs.lemmas.Iterator.Consumers.{YieldsList-at, count_from_yields_List}
use Rattle.std.proofs.lemmas.Iterator.Search.{YieldsList-from_take_while}
use Rattle.std.proofs.lemmas.List.Folds.{length-prefix_len}
use borrow.Author.Tests.{tests}
use Rattle.agreement.proofs.RankedAgreement.{alike, pairs_counted}
use Rattle.agreement.proofs.common_prefix_singly.Goals as goal

pub returns : goal.returns
returns c =
    let ranks : List ℕ = c.args.keys.now in
    let first : List ℕ = take c.min-shorter.result c.args.u.now in
    let second : List ℕ = take c.min-shorter.result c.args.v.now in
    let counted : c.count.result ≡ length (take (prefix_len (alike ranks) (zip first second)) (zip first second)) =
    count_from_yields_List _ c.count.result c.count.ensures.ran
    (YieldsList-from_take_while _ (alike ranks)
    (YieldsList-at c.take_while.ensures.source
    (YieldsList-from_zip (YieldsList-at c.zip.ensures.first (YieldsList-from_slice first cc)) (YieldsList-from_slice second cc)))
    c.take_while.ensures.closure c.take_while.ensures.done (λ x b q k. search (rules, tests)))
    in
    record {
      result = counted ∙ length-prefix_len (alike ranks) (zip first second) ∙ pairs_counted ranks c.args.u.now c.args.v.now c.min-shorter.result
          (omega (arith, c.min-shorter.ensures));
    }
