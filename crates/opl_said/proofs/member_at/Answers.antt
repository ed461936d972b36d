-- `member_at` meets its contract, by cases of the next tag.
use mathlib.Core.Path.{refl, sym, ap, ◌∙◌}
use Rattle.std.specs.Prelude.{Some}
use Rattle.opl_said.proofs.MemberLaws.{member-over, member-ended, member-here, member-other, member-past}
use Rattle.opl_spaces.specs.Spaces.{list_of}
use Rattle.opl_said.proofs.member_at.Goals as goal

pub returns-in_default : goal.returns-in_default
returns-in_default c =
    let args = c.args in
    member-over args.texts.policy.now (list_of args.texts.scratch.now) args.e args.at args.entry _ c.in_default.ensures refl

pub returns-in-Ended : goal.returns-in-Ended
returns-in-Ended c =
    let args = c.args in
    member-ended args.texts.policy.now (list_of args.texts.scratch.now) args.e args.at args.entry _ c.in-Some.ensures c.in-Ended.next
    (ap Some c.in-Ended.is)

pub returns-then-id-e : goal.returns-then-id-e
returns-then-id-e c =
    let args = c.args in
    let b = c.in-Begun in
    member-here args.texts.policy.now (list_of args.texts.scratch.now) args.e args.at args.entry _ c.in-Some.ensures b.id b.end b.entry
    (ap Some b.is) c.requires.0.1 c.if-id-e.true

pub returns-then-inner : goal.returns-then-inner
returns-then-inner c =
    let args = c.args in
    let b = c.in-Begun in
    member-other args.texts.policy.now (list_of args.texts.scratch.now) args.e args.at args.entry _ c.in-Some.ensures b.id b.end b.entry
    (ap Some b.is) c.requires.0.1 c.if-id-e.false (sym c.inner.ensures ∙ c.if-inner.true)

pub returns-else-inner : goal.returns-else-inner
returns-else-inner c =
    let args = c.args in
    let b = c.in-Begun in
    member-past args.texts.policy.now (list_of args.texts.scratch.now) args.e args.at args.entry _ c.in-Some.ensures b.id b.end b.entry
    (ap Some b.is) (sym c.inner.ensures ∙ c.if-inner.false)
