-- `array::bytes::lyndon_array` meets its contract: the rising array by the keys of the order is the array in that order.
-- Assumes nothing.
use Rattle.letters.specs.RankLaws.{fitting_bytes}
use Rattle.array.proofs.AnswerLaws.{ordered_content}
use Rattle.array.proofs.bytes.lyndon_array.Goals as goal

pub returns-clause-content : goal.returns-clause-content
returns-clause-content c =
    let text = fitting_bytes c.type_inv.text in
    let passed = c.in_default.ensures.passed in
    search ordered_content
