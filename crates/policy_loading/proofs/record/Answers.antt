-- `record` meets its contract: it returns the refusal of `judge`, or carries out the record that passed by `step`.
use mathlib.Core.Path.{refl}
use Rattle.std.proofs.lemmas.Result.{err_from_is_err_and}
use Rattle.paper_lower.specs.Forms.{policy_forms}
use Rattle.paper_lower.specs.Policy.{policy_kinds}
use Rattle.paper_lower.specs.Load.{policy_answer}
use Rattle.policy.specs.Reading.{policy_of}
use Rattle.records.specs.Calls.{settled}
use Rattle.records.proofs.Passing.{refused-answer, sized, passed, passed-answer}
use Rattle.replies.proofs.DoneLaws.{refused}
use Rattle.policy_loading.proofs.Turns.{settles}
use Rattle.policy_loading.proofs.record.Goals as goal

pub returns-in_err-judge : goal.returns-in_err-judge
unfolding policy_answer
returns-in_err-judge c =
    let p = err_from_is_err_and c.from_residual.result c.from_residual.ensures.1 in
    rw (p.1, p.2)
    (rw (refused-answer policy_forms c.args.bytes.now policy_kinds (policy_of c.args.p.now) _ c.in_err-judge.ensures) (refused refl))

pub decode-requires : goal.decode-requires
decode-requires c = sized policy_forms _ c.in_ok-judge.ensures

pub step-requires : goal.step-requires
step-requires c = passed policy_forms _ c.in_ok-judge.ensures c.decode.ensures

pub returns : goal.returns
unfolding policy_answer settled
returns c =
    rw (passed-answer policy_forms c.args.bytes.now c.in_ok-judge.ensures c.decode.ensures policy_kinds (policy_of c.args.p.now)) (settles c.step.ensures)
