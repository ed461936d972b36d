-- `unmarked` meets its contract: the text is borrowed from the index after the mark to its end.
use Prim.Native.Nat.{◌-◌}
use native.Mathlib.Omega.{arith}
use mathlib.Core.Path.{◌∙◌}
use lib.ListN.{length, drop, length-drop}
use lib.Seq.{take_all}
use Rattle.opl.proofs.unmarked.Goals as goal

pub returns : goal.returns
returns c =
    let args = c.args in
    take_all (length args.t.now - c.behind_mark-from.result) (drop c.behind_mark-from.result args.t.now)
    (omega (arith, length-drop c.behind_mark-from.result args.t.now)) ∙ c.behind_mark-from.ensures.rest
