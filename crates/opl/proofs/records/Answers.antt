-- `records` meets its contract: it looks up and counts the records (or NAMES), computes where each kind begins (or ROOM), and writes them.
use Rattle.opl_tags.specs.Tags.{walk_at}
use Rattle.opl.proofs.JoinLaws.{no_line, zeros-at, no-tag, no_room, lines_fit, tags-there, tags-fit, all-written}
use lib.ListN.{replicate}
use mathlib.Core.Path.{refl}
use Rattle.opl.proofs.records.Goals as goal

pub returns-in_default : goal.returns-in_default
returns-in_default c =
    let args = c.args in
    no_line args.s.now args.t.now args.out.now c.in_default.ensures

pub returns-in_default-check_tags : goal.returns-in_default-check_tags
returns-in_default-check_tags c =
    let args = c.args in
    no-tag args.s.now args.t.now args.out.now args.from c.requires.tags-are (replicate 19 0) c.check_tags.new.counts c.in_default-check_tags.ensures

pub returns-in_default-begin : goal.returns-in_default-begin
returns-in_default-begin c =
    let args = c.args in
    let l = c.in-Some.ensures in
    let k = c.in-Some-check_tags.ensures in
    no_room args.s.now args.t.now args.out.now args.from c.requires.tags-are (replicate 19 0) c.check_tags.new.counts l.0 refl (zeros-at 19) k.0
    c.in-Some.n l.1.0 c.in_default-begin.ensures

pub write_lines-requires : goal.write_lines-requires
write_lines-requires c =
    let pre = c.requires in
    let args = c.args in
    let l = c.in-Some.ensures in
    let k = c.in-Some-check_tags.ensures in
    let b = c.in-Some-begin in (
      (k.1.0.0, pre.task-lines),
      (
        l.0,
        lines_fit args.s.now args.t.now args.out.now args.from pre.tags-are (replicate 19 0) c.check_tags.new.counts l.0 refl (zeros-at 19) k.0
            c.in-Some.n l.1.0 c.begin.new.counts b.total b.ensures,
      ),
    )

pub write_all-requires : goal.write_all-requires
write_all-requires c =
    let pre = c.requires in
    let args = c.args in
    let l = c.in-Some.ensures in
    let k = c.in-Some-check_tags.ensures in
    let b = c.in-Some-begin in
    let put = c.write_lines in (
      (
        (k.1.0.0, ((pre.inside, rw k.1.0.1 pre.leads), pre.small)),
        (
          tags-there args.s.now args.t.now (walk_at args.s.now args.from) (replicate 19 0) c.check_tags.new.counts k.0,
          tags-fit args.s.now args.t.now args.out.now args.from pre.tags-are (replicate 19 0) c.check_tags.new.counts l.0 refl (zeros-at 19) k.0
              c.in-Some.n l.1.0 c.begin.new.counts b.total b.ensures put.new.out put.auto.out put.ensures,
        ),
      ),
      k.1.1,
    )

pub returns : goal.returns
returns c =
    let args = c.args in
    let l = c.in-Some.ensures in
    let k = c.in-Some-check_tags.ensures in
    let b = c.in-Some-begin in
    let put = c.write_lines in
    let all = c.write_all in
    all-written args.s.now args.t.now args.out.now args.from c.requires.tags-are (replicate 19 0) c.check_tags.new.counts l.0 refl (zeros-at 19) k.0
    c.in-Some.n l.1.0 c.begin.new.counts b.total b.ensures put.new.out put.auto.out put.ensures all.new.out all.auto.out all.ensures
