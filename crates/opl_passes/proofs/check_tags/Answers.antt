use mathlib.Core.Path.{sym, ◌∙◌}
use Rattle.opl_said.specs.Said.{all_names}
use Rattle.opl_passes.proofs.TagLaws.{kept-first, kept-done, kept-many, kept_again}
use Rattle.opl_passes.proofs.check_tags.Goals as goal

pub loop-c-init : goal.loop-c-init
loop-c-init c =
    let args = c.args in
    let pre = c.requires in
    kept-first (all_names args.s.now args.t.now) args.s.now args.t.now args.from args.counts.now args.w.now pre.1.0.0 pre.1.0.1 pre.1.1.0 pre.1.1.1
    pre.0

pub returns-then-not-few : goal.returns-then-not-few
returns-then-not-few c =
    let args = c.args in
    let loop = c.loop-c in
    kept-many (all_names args.s.now args.t.now) args.s.now args.t.now args.from args.counts.now args.w.now loop.c loop.j loop.counts loop.w
    loop.invariant (sym c.few.ensures ∙ c.if-not-few.true)

pub returns-in-Done : goal.returns-in-Done
returns-in-Done c =
    let args = c.args in
    let loop = c.loop-c in
    let check = c.check_at in
    kept-done (all_names args.s.now args.t.now) args.s.now args.t.now args.from args.counts.now args.w.now loop.c loop.j loop.counts loop.w
    loop.invariant check.result check.new.counts check.new.w check.ensures (sym c.few.ensures ∙ c.if-not-few.false) c.in-Done.is

pub loop-c-preserved : goal.loop-c-preserved
loop-c-preserved c =
    let args = c.args in
    let loop = c.loop-c in
    let check = c.check_at in
    kept_again (all_names args.s.now args.t.now) args.s.now args.t.now args.from args.counts.now args.w.now loop.c loop.j loop.counts loop.w
    loop.invariant check.result check.new.counts check.new.w check.ensures c.in-Next.n c.in-Next.i c.in-Next.is
