-- `lines` meets its contract. The invariant of the loop: the records of all rows below a are written.
use Prim.Native.Nat.{◌*◌}
use Rattle.paper_lower.specs.Written.{in_turn}
use Rattle.policy_writing.specs.Lines.{row_in}
use Rattle.policy_writing.specs.Laying.{Laid}
use Rattle.policy_writing.proofs.lines.Given as goal

abbrev pub invariant-loop-a : goal.invariant-loop-a
invariant-loop-a l =
    Laid (in_turn l.a (row_in l.p l.kind)) (256 * l.a) l.initial.output l.output l.place l.at
