use mathlib.Core.Path.{refl, sym, ◌∙◌}
use native.Mathlib.Omega.{arith}
use Rattle.opl_names.specs.Table.{bucket_of}
use Rattle.opl_names.proofs.TableLaws.{walk_start, walk-found, walk-less, walk-on, walk_end}
use Rattle.opl_names.proofs.find_marked.Goals as goal

pub loop-next-init : goal.loop-next-init
loop-next-init c =
    let args = c.args in
    let pre = c.requires in
    walk_start args.s.now args.n args.t.now args.name.now args.m (bucket_of args.n args.m) pre.0 pre.1 refl c.start-next.result
    (rw c.bucket.ensures.0 at c.bucket.ensures.1) (rw c.bucket.ensures.0 at c.start-next.ensures.0)

pub returns-then-is_name : goal.returns-then-is_name
returns-then-is_name c =
    let args = c.args in
    let pre = c.requires in
    let loop = c.loop-next in
    walk-found args.s.now args.n args.t.now args.name.now args.m (bucket_of args.n args.m) pre.0 pre.1 refl loop.next
    (omega (arith, c.loop-next-test.true)) loop.invariant (sym c.if-is_name.true ∙ c.is_name.ensures)

pub loop-next-smaller : goal.loop-next-smaller
loop-next-smaller c =
    let args = c.args in
    let pre = c.requires in
    let loop = c.loop-next in
    let loop-test = c.loop-next-test in
    walk-less args.s.now args.n args.t.now args.name.now args.m (bucket_of args.n args.m) pre.0 pre.1 refl loop.next
    (omega (arith, loop-test.true)) loop.invariant c.link-next.result (sym c.if-is_name.false ∙ c.is_name.ensures) c.link-next.ensures

pub loop-next-preserved : goal.loop-next-preserved
loop-next-preserved c =
    let args = c.args in
    let pre = c.requires in
    let loop = c.loop-next in
    let loop-test = c.loop-next-test in
    walk-on args.s.now args.n args.t.now args.name.now args.m (bucket_of args.n args.m) pre.0 pre.1 refl loop.next
    (omega (arith, loop-test.true)) loop.invariant c.link-next.result (sym c.if-is_name.false ∙ c.is_name.ensures) c.link-next.ensures

pub returns : goal.returns
returns c =
    let args = c.args in
    let pre = c.requires in
    walk_end args.s.now args.n args.t.now args.name.now args.m (bucket_of args.n args.m) pre.0 pre.1 refl
    c.loop-next.next (omega (arith, c.loop-next-test.false)) c.loop-next.invariant
