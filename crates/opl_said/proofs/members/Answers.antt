use Rattle.opl_said.specs.Said.{all_names}
use Rattle.opl_said.proofs.MemberLaws.{set_first, set-end, set-unnamed, set_on}
use Rattle.opl_spaces.specs.Spaces.{limit_of, list_of}
use Rattle.opl_said.proofs.members.Goals as goal

pub loop-next-init : goal.loop-next-init
loop-next-init c =
    let args = c.args in
    let x = args.texts in
    let pre = c.requires in
    record {
      inside = pre.1.0.0;
      leads = pre.1.0.1;
      members = set_first (all_names x.policy.now x.lines.now) x.policy.now (list_of x.scratch.now) args.e args.id args.i args.tag.end;
    }

pub next_member-requires : goal.next_member-requires
next_member-requires c =
    let pre = c.requires in
    let i = c.loop-next.invariant in
    ((pre.0.room, pre.1.1.0), (i.inside, i.leads))

pub returns-in_err-number : goal.returns-in_err-number
returns-in_err-number c =
    let args = c.args in
    let x = args.texts in
    let loop = c.loop-next in
    let next = c.in-Some in
    rw c.from_residual.ensures
    (set-unnamed (all_names x.policy.now x.lines.now) x.policy.now (list_of x.scratch.now) args.e args.id args.i args.tag.end loop.m loop.last.end
    loop.invariant.members (limit_of args.i) next.next.end next.next.entry next.ensures c.in_err-number.ensures)

pub loop-next-preserved : goal.loop-next-preserved
loop-next-preserved c =
    let args = c.args in
    let x = args.texts in
    let loop = c.loop-next in
    let next = c.in-Some in
    record {
      inside = next.ensures.inside;
      leads = next.ensures.leads;
      members =
          rw c.with-m.ensures
          (set_on (all_names x.policy.now x.lines.now) x.policy.now (list_of x.scratch.now) args.e args.id args.i args.tag.end loop.m loop.last.end
          loop.invariant.members (limit_of args.i) next.next.end next.next.entry next.ensures c.in_ok-number.number c.in_ok-number.ensures);
    }

pub returns : goal.returns
returns c =
    let args = c.args in
    let x = args.texts in
    let loop = c.loop-next in
    set-end (all_names x.policy.now x.lines.now) x.policy.now (list_of x.scratch.now) args.e args.id args.i args.tag.end loop.m loop.last.end
    loop.invariant.members c.in_default.ensures
