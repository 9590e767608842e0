-- `factors::suffix_table::suffix_table_ranked` meets its contract: where the checks pass, the table of the row of the order is there.
-- Assumes nothing.
use mathlib.Core.Path.{ap, ◌∙◌}
use Rattle.words.specs.Decided.{decided_order}
use Rattle.answer.specs.AfterLaws.{content_accepted}
use Rattle.answer.specs.ContentLaws.{same_room, sized_room}
use Rattle.letters.specs.Compared.{numbered_order}
use Rattle.letters.specs.Ranks.{direction_of}
use Rattle.letters.specs.RankLaws.{row_in_length, fitting_bytes}
use Rattle.factors.specs.Results.{AllTabled}
use Rattle.factors.proofs.Ranking.{in_order}
use Rattle.factors.proofs.Tabling.{tabled_written}
use Rattle.factors.proofs.suffix_table.suffix_table_ranked.Goals as goal

pub returns-clause-content : goal.returns-clause-content
returns-clause-content c =
    let passed = c.in_default.ensures.passed in
    let room = same_room (row_in_length c.args.order c.args.table.now c.args.text.now) (sized_room passed.0 passed.3) in
    let tabled = in_order (λ O D x. AllTabled O x c.args.out.now c.fill_in.new.out) c.args.order _ c.args.table.now _ c.args.text.now
    (c.numbered.ensures.order ∙ ap numbered_order c.direction.ensures.direction)
    c.rank_table-keys.ensures.content (fitting_bytes c.type_inv.text) passed.2 c.fill_in.ensures.content in
    content_accepted _ _ c.accept.ensures.answer _ _ _ (tabled_written _ (decided_order (direction_of c.args.order)) _ _ _ room tabled)
