-- `first_member` meets its contract: it takes the number from the next element e, if there is one.
use Rattle.opl_said.specs.Said.{all_names}
use Rattle.opl_said.proofs.MemberLaws.{first-nothing, first-there}
use Rattle.opl_spaces.specs.Spaces.{limit_of, list_of}
use Rattle.opl_said.proofs.first_member.Goals as goal

pub returns-in_err-first : goal.returns-in_err-first
returns-in_err-first c =
    let args = c.args in
    let x = args.texts in
    rw c.from_residual.ensures
    (first-nothing (all_names x.policy.now x.lines.now) x.policy.now (list_of x.scratch.now) args.e args.id args.i args.tag.end (limit_of args.i)
    c.in_err-first.ensures)

pub returns : goal.returns
returns c =
    let args = c.args in
    let x = args.texts in
    first-there (all_names x.policy.now x.lines.now) x.policy.now (list_of x.scratch.now) args.e args.id args.i args.tag.end c.in_ok-first.first
    c.in_ok-first.ensures (limit_of args.i) c.field.result c.field.ensures
