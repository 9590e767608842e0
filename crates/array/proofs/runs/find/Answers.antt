-- `array::runs::find` meets its contract: both passes, and the sort.
-- Assumes nothing.
use Rattle.std.proofs.Common.{◌≡◌, arith}
use Rattle.sorting.specs.Triples.{sorted_content}
use Rattle.array.proofs.PassLaws.{first_ready, second_ready}
use Rattle.array.proofs.RunsFound.{turned_row, falling_done, few, both_found}
use Rattle.array.proofs.runs.find.Goals as goal

pub run-requires : goal.run-requires
run-requires g c = search first_ready

-- The letters by the turned table compare as those by the keys do in falling order.
pub run-requires-2 : goal.run-requires-2
run-requires-2 g c =
    let alike = turned_row _ _ _ c.requires.text c.requires.keys c.turned_table-keys.ensures.content in
    second_ready _ _ _ _ _ _ _ _ _ c.requires.find_ready c.len-n.ensures (omega arith) alike c.run.ensures.content

pub overflow_cast-count : goal.overflow_cast-count
overflow_cast-count g c =
    let alike = turned_row _ _ _ c.requires.text c.requires.keys c.turned_table-keys.ensures.content in
    let fewer = few _ _ _ _ _ _ _ _ _ c.run.ensures.content (falling_done _ _ _ _ _ _ _ alike c.run-2.ensures.content) c.requires.find_ready in
    omega (arith, fewer, c.requires.find_ready.sized.short)

pub returns : goal.returns
returns g c =
    let alike = turned_row _ _ _ c.requires.text c.requires.keys c.turned_table-keys.ensures.content in
    let sorted : c.sort_triples.new.list ≡ sorted_content c.run-2.new.found.count c.run-2.new.found.list.now = grind arith in
    record {
      content =
          both_found _ _ _ _ _ _ _ _ _ c.run.ensures.content (falling_done _ _ _ _ _ _ _ alike c.run-2.ensures.content) c.requires.find_ready _
          sorted _ _ c.len-n.ensures (omega arith) _ c.accept.ensures.answer;
    }
