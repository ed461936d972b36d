-- `same_run` meets its contract: eight tests, one after the other.
use Rattle.opl_text.proofs.Eights.{same-eight}
use Rattle.opl_text.proofs.same_run.Goals as goal

pub returns : goal.returns
returns c =
    let args = c.args in
    let pre = c.requires in
    λ e. same-eight args.v.now args.w.now args.i pre.0 pre.1 e
