-- `answer_to` meets its contract, by cases of the kind; a kind that is no question cannot occur.
use Rattle.paper_lower.specs.Forms.{request_forms}
use Rattle.records.specs.Limits.{limit_a, limits_open}
use Rattle.records.proofs.Passing.{below}
use Rattle.call_question.proofs.Ways.{no-other-question, of-figures, of-stuck}
use Rattle.call_question.proofs.answer_to.Goals as goal

pub figures-requires : goal.figures-requires
unfolding limits_open
figures-requires c =
    let pre = c.requires in
    (pre.0, below (limit_a request_forms) pre.1.0.a c.in-58.is 64 tt)

pub stuck_tasks-requires : goal.stuck_tasks-requires
unfolding limits_open
stuck_tasks-requires c =
    let pre = c.requires in
    below (limit_a request_forms) pre.1.0.a c.in-60.is 16 tt

pub returns-in-58 : goal.returns-in-58
returns-in-58 c =
    let args = c.args in
    let match = c.in-58 in
    of-figures args.p.now args.o.now args.r match.is c.figures.ensures

pub returns-in-60 : goal.returns-in-60
returns-in-60 c =
    let args = c.args in
    let match = c.in-60 in
    of-stuck args.p.now args.o.now args.r match.is c.stuck_tasks.ensures

pub returns-in_default : goal.returns-in_default
returns-in_default c =
    let args = c.args in
    let pre = c.requires in
    absurd (no-other-question args.r.kind pre.1.1 c.in_default.in_default-own.rest)
