-- `keep` meets its contract: if the record is refused, nothing is written, and otherwise its sixteen bytes are.
use native.Mathlib.Omega.{arith}
use Rattle.std.proofs.lemmas.Result.{err_from_is_err_and}
use Rattle.policy_mending.proofs.Rests.{not-kept, is-kept}
use Rattle.policy_mending.proofs.keep.Goals as goal

pub returns-in_err-record : goal.returns-in_err-record
returns-in_err-record c =
    let p = err_from_is_err_and c.from_residual.result c.from_residual.ensures.1 in
    rw (p.1, p.2) (not-kept c.args.input.now c.args.at c.args.output.now c.args.to c.args.p.now _ _ (omega arith) c.in_err-record.ensures)

pub returns : goal.returns
returns c =
    is-kept c.args.input.now c.args.at c.args.output.now c.args.to c.args.p.now _ _ (omega arith) c.copy_from_slice.new.self _ c.copy_from_slice.ensures.after
    (omega arith) (omega arith) c.in_ok-record.ensures
