-- `table_store::store::TableStore::look_up` meets its contract: where the checks refuse, the lookup finds that refusal.
-- Assumes nothing.
use Rattle.std.proofs.Common.{arith}
use Rattle.std.proofs.lemmas.Grind.{common_steps}
use Rattle.answer.specs.Answers.{accepted_with}
use Rattle.table_store.proofs.store.TableStore.look_up.Goals as goal

pub returns-in_err-table_use : goal.returns-in_err-table_use
returns-in_err-table_use c =
    let refused = c.table_use.ensures.check.answer (accepted_with 0) in
    grind (arith, common_steps, refused)
