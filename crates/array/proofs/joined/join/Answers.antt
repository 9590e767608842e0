-- `array::joined::join` meets its contract. The outer loop keeps `JoinLoop`; the comparison keeps the letters known to agree. At each moment w is what is
-- known where the comparison begins, and `told` what the comparison says, by the tests on each way out of it.
-- Assumes nothing.
use Rattle.std.proofs.Common.{arith, rules, ◌≡◌, min}
use Rattle.array.proofs.Comparing.{Compared}
use Rattle.array.proofs.ComparisonEnds.{ended_same, ended_above, past_below, agree_more, letter_told, settled_below}
use Rattle.array.proofs.JoinSteps.{word_compared, join_step, joined_stopped, joined_end}
use Rattle.array.proofs.joined.join.Goals as goal
use Rattle.array.proofs.joined.join.Goals.{then-factor-agreed+then-word-factor, then-factor-agreed+else-word-factor}
use Rattle.array.proofs.joined.join.Goals.{else-factor-agreed+then-differ+then-word-agreed, else-factor-agreed+then-differ+else-word-agreed}
use Rattle.array.proofs.joined.join.Goals.{else-factor-agreed+else-differ+then-agreed-word+in-Some}

pub compare-stop-requires-clause-second : goal.compare-stop-requires-clause-second
compare-stop-requires-clause-second g c =
    let w = word_compared c.requires c.loop-end.invariant c.len.ensures.length c.loop-end-test.true c.at-factor.ensures.factor in
    omega (arith, w)

pub settled-requires : goal.settled-requires
settled-requires g c =
    let w = word_compared c.requires c.loop-end.invariant c.len.ensures.length c.loop-end-test.true c.at-factor.ensures.factor in
    (omega (arith, w), omega (arith, w), w.short)

pub loop-agreed-preserved-in_default : goal.loop-agreed-preserved-in_default
loop-agreed-preserved-in_default g c =
    let w = word_compared c.requires c.loop-end.invariant c.len.ensures.length c.loop-end-test.true c.at-factor.ensures.factor in
    search (agree_more w c.loop-agreed.invariant)

pub restore-requires : goal.restore-requires
restore-requires g c =
    let w = word_compared c.requires c.loop-end.invariant c.len.ensures.length c.loop-end-test.true c.at-factor.ensures.factor in
    omega (arith, w)

pub loop-end-preserved : goal.loop-end-preserved
loop-end-preserved g c =
    let w = word_compared c.requires c.loop-end.invariant c.len.ensures.length c.loop-end-test.true c.at-factor.ensures.factor in
    let n = c.loop-agreed.invariant in
    let told :
    Compared (g.T.Text.order c.args.text) (g.T.Text.values c.args.text) c.args.i c.at-factor.result.start c.if-factor-agreed.agreed c.if-factor-agreed.stop =
    elim c.if-factor-agreed.branch [
      | then-factor-agreed+then-word-factor r ↦ search (ended_same w n)
      | then-factor-agreed+else-word-factor r ↦ search (ended_above w n)
      | else-factor-agreed+then-differ+then-word-agreed r ↦ search (past_below w n)
      | else-factor-agreed+then-differ+else-word-agreed r ↦ search (letter_told w n)
      | else-factor-agreed+else-differ+then-agreed-word+in-Some r ↦ search (settled_below w n)
    ]
    in
    let least : c.min-agreed.result ≡ min c.if-factor-agreed.agreed c.at-factor.result.known = search rules in
    join_step c.requires c.loop-end.invariant c.len.ensures.length c.loop-end-test.true c.at-factor.ensures.factor told c.in-Less.is
    c.restore.ensures.content least

pub returns-in_default-stop : goal.returns-in_default-stop
returns-in_default-stop g c =
    let w = word_compared c.requires c.loop-end.invariant c.len.ensures.length c.loop-end-test.true c.at-factor.ensures.factor in
    let n = c.loop-agreed.invariant in
    let told :
    Compared (g.T.Text.order c.args.text) (g.T.Text.values c.args.text) c.args.i c.at-factor.result.start c.if-factor-agreed.agreed c.if-factor-agreed.stop =
    elim c.if-factor-agreed.branch [
      | then-factor-agreed+then-word-factor r ↦ search (ended_same w n)
      | then-factor-agreed+else-word-factor r ↦ search (ended_above w n)
      | else-factor-agreed+then-differ+then-word-agreed r ↦ search (past_below w n)
      | else-factor-agreed+then-differ+else-word-agreed r ↦ search (letter_told w n)
      | else-factor-agreed+else-differ+then-agreed-word+in-Some r ↦ search (settled_below w n)
    ]
    in
    record { content = joined_stopped c.loop-end.invariant c.at-factor.ensures.factor told c.in_default-stop.not-Less }

pub returns : goal.returns
returns g c = record { content = search joined_end }
