use mathlib.Core.Path.{◌≡◌, sym, ◌∙◌}
use native.Mathlib.Omega.{arith}
use lib.ListN.{length}
use Rattle.opl_text.proofs.Laws.{comment_end}
use Rattle.opl_text.proofs.comment_end.Goals as goal

pub returns : goal.returns
returns c =
    let e : c.loop-i.i ≡ length c.args.s.now = omega arith in
    record {
      read_is = rw (← e) (comment_end c.args.s.now c.loop-i.i c.loop-i-test.false ∙ sym c.loop-i.invariant);
      inside = omega arith;
    }
