use mathlib.Core.Path.{refl}
use native.Mathlib.Omega.{arith}
use Rattle.opl_spaces.specs.Spaces.{list_of}
use Rattle.opl_said.proofs.MemberLaws.{next_last, next_here, next-on, next-left}
use Rattle.opl_said.proofs.next_member.Goals as goal

pub loop-found-init : goal.loop-found-init
loop-found-init c =
    let pre = c.requires in
    record { inside = pre.1.0; order = omega arith; rest = refl; leads = pre.1.1 }

pub member_at-requires : goal.member_at-requires
member_at-requires c =
    let i = c.loop-found.invariant in
    (c.requires.0, (i.inside, i.leads))

pub returns-in-Last : goal.returns-in-Last
returns-in-Last c =
    let args = c.args in
    let i = c.loop-found.invariant in
    next_last args.texts.policy.now (list_of args.texts.scratch.now) args.e args.tag.end c.loop-found.at i.rest i.order c.member_at.result
    c.member_at.ensures c.in-Last.is

pub returns-in-Here : goal.returns-in-Here
returns-in-Here c =
    let args = c.args in
    let i = c.loop-found.invariant in
    next_here args.texts.policy.now (list_of args.texts.scratch.now) args.e args.tag.end c.loop-found.at i.rest i.order c.member_at.result
    c.member_at.ensures c.in-Here.found c.in-Here.is

pub loop-found-preserved : goal.loop-found-preserved
loop-found-preserved c =
    let args = c.args in
    let i = c.loop-found.invariant in
    let m = c.in-Other in
    let o =
    next-on args.texts.policy.now (list_of args.texts.scratch.now) args.e args.tag.end c.loop-found.at i.rest i.order c.member_at.result
    c.member_at.ensures m.next m.entry m.is in
    record {
      inside = o.inside;
      order = omega (arith, o.past, i.order);
      rest =
          next-left args.texts.policy.now (list_of args.texts.scratch.now) args.e args.tag.end c.loop-found.at i.rest i.order
          c.member_at.result c.member_at.ensures m.next m.entry m.is;
      leads = o.leads;
    }
