-- `turn` meets its contract: an end tag yields no record, and a start tag yields what `told` gives for its element.
use mathlib.Core.Path.{refl, ap}
use Rattle.std.specs.Prelude.{Some}
use Rattle.opl_spaces.specs.Spaces.{list_of}
use Rattle.opl_turns.proofs.TurnLaws.{turn-over, turn-ended, turn-begun}
use Rattle.opl_turns.proofs.turn.Goals as goal

pub returns-in_err-t : goal.returns-in_err-t
returns-in_err-t c =
    let args = c.args in
    let pre = c.requires in
    rw c.from_residual.ensures (turn-over args.s.now (list_of args.w.now) args.c pre.1.0 pre.1.1.0 _ c.in_err-t.ensures refl)

pub returns-in-Ended : goal.returns-in-Ended
returns-in-Ended c =
    let args = c.args in
    let pre = c.requires in
    turn-ended args.s.now (list_of args.w.now) args.c pre.1.0 pre.1.1.0 _ c.in_ok-t.ensures c.in-Ended.next (ap Some c.in-Ended.is)

pub returns-in-Begun : goal.returns-in-Begun
returns-in-Begun c =
    let args = c.args in
    let pre = c.requires in
    let t = c.in-Begun in
    rw c.told.ensures
    (turn-begun args.s.now (list_of args.w.now) args.c pre.1.0 pre.1.1.0 _ c.in_ok-t.ensures t.id t.end t.entry (ap Some t.is))
