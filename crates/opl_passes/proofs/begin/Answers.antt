use Rattle.opl_passes.proofs.TagLaws.{begin-first, begin-over, begin-on}
use Rattle.opl_passes.proofs.begin.Goals as goal

pub loop-k-init : goal.loop-k-init
loop-k-init c = begin-first c.args.counts.now c.args.cap c.told-counts

pub returns-then-cap-sum : goal.returns-then-cap-sum
returns-then-cap-sum c =
    let loop = c.loop-k in
    begin-over c.args.counts.now c.args.cap loop.counts loop.sum loop.k loop.invariant c.loop-k-test.true c.if-cap-sum.true

pub loop-k-preserved : goal.loop-k-preserved
loop-k-preserved c =
    let loop = c.loop-k in
    begin-on c.args.counts.now c.args.cap loop.counts loop.sum loop.k loop.invariant c.loop-k-test.true c.if-cap-sum.false
