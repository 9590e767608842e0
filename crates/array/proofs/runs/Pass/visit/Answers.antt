-- `array::runs::Pass::visit` meets its contract: the word is joined and stored, and its run listed where the comparison said greater.
-- Assumes nothing.
use Rattle.array.proofs.Visiting.{stopped_at, at_root, not_listed, visited}
use Rattle.array.proofs.runs.Pass.visit.Goals as goal

pub extended-k-requires : goal.extended-k-requires
extended-k-requires g c = search stopped_at

pub list_at-requires-clause-at_root : goal.list_at-requires-clause-at_root
list_at-requires-clause-at_root g c = search at_root

pub returns-in-Greater-clause-content : goal.returns-in-Greater-clause-content
returns-in-Greater-clause-content g c = search visited

pub returns-in_default-clause-content : goal.returns-in_default-clause-content
returns-in_default-clause-content g c = search (visited, not_listed)
