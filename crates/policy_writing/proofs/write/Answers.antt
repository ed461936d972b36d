-- `write` meets its contract at its three returns: a buffer of the wrong length, an output that is too short, and all records written.
use mathlib.Core.Path.{ap, ◌∙◌}
use native.Mathlib.Omega.{arith}
use lib.ListN.{length}
use Rattle.policy_writing.proofs.Ways.{no_buffer, too_short, all-written}
use Rattle.policy_writing.proofs.write.Goals as goal

pub returns-in_default : goal.returns-in_default
returns-in_default c = record { answers = no_buffer c.args.policy.now c.args.output.now c.in_default.ensures.cases; few = omega arith }

pub returns-then-output-records : goal.returns-then-output-records
returns-then-output-records c =
    let whole = c.in-Some.ensures.cases in
    rw (← whole.same)
    (record {
      answers = too_short c.in-Some.p.now c.args.output.now (ap length whole.same ∙ whole.long) c.count-records.ensures.0 c.if-output-records.true;
      few = omega arith;
    })

pub returns : goal.returns
returns c =
    let whole = c.in-Some.ensures.cases in
    rw (← whole.same)
    (record {
      answers = all-written c.in-Some.p.now c.args.output.now (ap length whole.same ∙ whole.long) c.count-records.ensures.0 c.if-output-records.false c.all.ensures;
      few = c.count-records.ensures.1;
    })
