-- `factors::factorization::factorization_ranked` meets its contract: where the checks pass, the factors of the row of the order are listed.
-- Assumes nothing.
use mathlib.Core.Path.{ap, ap₂, ◌∙◌}
use Rattle.answer.specs.Answers.{accepted_after}
use Rattle.letters.specs.Compared.{numbered_order}
use Rattle.letters.specs.RankLaws.{fitting_bytes}
use Rattle.factors.specs.Results.{FactorsListed}
use Rattle.factors.proofs.Ranking.{in_order}
use Rattle.factors.proofs.factorization.factorization_ranked.Goals as goal

pub returns : goal.returns
returns c =
    let checked = c.in_default.ensures in
    let listed = in_order (λ O D x. FactorsListed D x c.args.out.now c.list_in.new.out c.list_in.result) c.args.order _ c.args.table.now _ c.args.text.now
    (c.numbered.ensures.order ∙ ap numbered_order c.direction.ensures.direction)
    c.rank_table-keys.ensures.content (fitting_bytes c.type_inv.text) checked.passed.2 c.list_in.ensures.content in
    record { answer = ap₂ accepted_after listed.counted listed.compared ∙ checked.check.answer _; content = listed.content }
