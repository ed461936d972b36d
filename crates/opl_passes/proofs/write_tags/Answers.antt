use Rattle.opl_passes.proofs.TagLaws.{write-few, write-ended}
use Rattle.opl_said.specs.Said.{all_names}
use Rattle.opl_spaces.specs.Spaces.{list_of}
use Rattle.opl_passes.proofs.write_tags.Goals as goal

pub write_at-requires : goal.write_at-requires
write_at-requires c =
    let args = c.args in
    let x = args.texts in
    let loop = c.loop-n in
    let i = loop.invariant in
    let few =
    write-few (all_names x.policy.now x.lines.now) x.policy.now (list_of x.scratch.now) args.from args.next.now args.out.now loop.c loop.next loop.out i in
    ((c.requires.0.0, (i.stood, (few, i.led))), (i.there-all, i.fit))

pub returns : goal.returns
returns c =
    let args = c.args in
    let x = args.texts in
    let loop = c.loop-n in
    write-ended (all_names x.policy.now x.lines.now) x.policy.now (list_of x.scratch.now) args.from args.next.now args.out.now loop.c loop.next loop.out
    loop.invariant c.write_at.new.next c.write_at.new.out c.in_default.ensures
