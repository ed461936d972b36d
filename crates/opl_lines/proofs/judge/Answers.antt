use mathlib.Core.Path.{refl, sym, ◌∙◌}
use native.Mathlib.Omega.{arith}
use Rattle.std.proofs.lemmas.Result.{err_from_is_err_and}
use Rattle.opl_lines.proofs.LineLaws.{judge-bad, judge-past, judge-on, judge-end}
use Rattle.opl_lines.proofs.judge.Goals as goal

pub loop-at-init : goal.loop-at-init
loop-at-init c = (omega arith, refl)

pub returns-in_err-at : goal.returns-in_err-at
returns-in_err-at c =
    let refused = err_from_is_err_and c.from_residual.result c.from_residual.ensures.1 in
    rw (refused.1, refused.2)
    (record {
      read_is = judge-bad c.args.t.now c.loop-at.at c.loop-at-test.true c.in_err-at.field-0.0 c.in_err-at.ensures ∙ sym c.loop-at.invariant.1;
      inside = c.in_err-at.ensures.stands;
    })

pub loop-at-smaller : goal.loop-at-smaller
loop-at-smaller c =
    let past = judge-past c.args.t.now c.loop-at.at c.loop-at-test.true c.in_ok-at.field-0 c.in_ok-at.ensures in
    omega (arith, past.0, past.1)

pub loop-at-preserved : goal.loop-at-preserved
loop-at-preserved c = (
  (judge-past c.args.t.now c.loop-at.at c.loop-at-test.true c.in_ok-at.field-0 c.in_ok-at.ensures).1,
  c.loop-at.invariant.1 ∙ judge-on c.args.t.now c.loop-at.at c.loop-at-test.true c.in_ok-at.field-0 c.in_ok-at.ensures,
)

pub returns : goal.returns
returns c =
    record
    { read_is = judge-end c.args.t.now c.loop-at.at c.loop-at-test.false ∙ sym c.loop-at.invariant.1; inside = c.loop-at.invariant.0 }
