-- `left_forest::left_forest_ranked` meets its contract: the checks give the answer, and what each pass leaves is what the next one asks for.
-- Assumes nothing.
use Rattle.left_forest.proofs.Growing.{ranked_accepts, ranked_linkable, ranked_descends, ranked_first, ranked_past}
use Rattle.left_forest.proofs.left_forest_ranked.Goals as goal

-- PAST holds the suffix table.
pub link-last-requires : goal.link-last-requires
link-last-requires c =
    let passed = c.in_default.ensures.passed in
    ranked_linkable _ _ _ _ _ _ passed.0 passed.3 passed.4 (ranked_accepts _ _ _ _ passed.0 passed.1 passed.2 passed.4 c.suffix_table_ranked.ensures.answer)
    c.suffix_table_ranked.ensures.content

pub mark_roots-requires : goal.mark_roots-requires
mark_roots-requires c =
    let passed = c.in_default.ensures.passed in
    ranked_descends _ _ _ _ _ _ passed.0 passed.3 passed.4 (ranked_accepts _ _ _ _ passed.0 passed.1 passed.2 passed.4 c.suffix_table_ranked.ensures.answer)
    c.suffix_table_ranked.ensures.content _ _ _ c.link-last.ensures.content

pub returns-clause-starts : goal.returns-clause-starts
returns-clause-starts c =
    let passed = c.in_default.ensures.passed in
    ranked_first _ _ _ _ _ _ passed.0 passed.3 passed.4 (ranked_accepts _ _ _ _ passed.0 passed.1 passed.2 passed.4 c.suffix_table_ranked.ensures.answer)
    c.suffix_table_ranked.ensures.content _ _ _ c.link-last.ensures.content _ _ c.mark_roots.ensures.starts c.mark_roots.ensures.ends c.accept.ensures.answer

pub returns-clause-ends : goal.returns-clause-ends
returns-clause-ends c =
    let passed = c.in_default.ensures.passed in
    ranked_past _ _ _ _ _ _ passed.0 passed.3 passed.4 (ranked_accepts _ _ _ _ passed.0 passed.1 passed.2 passed.4 c.suffix_table_ranked.ensures.answer)
    c.suffix_table_ranked.ensures.content _ _ _ c.link-last.ensures.content _ _ c.mark_roots.ensures.starts c.mark_roots.ensures.ends c.accept.ensures.answer
