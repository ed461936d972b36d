-- `all` meets its contract. The invariant of the loop: the records of all kinds below `kind` are written.
use Prim.Native.Nat.{◌*◌}
use Rattle.paper_lower.specs.Written.{in_turn}
use Rattle.policy_writing.specs.Lines.{kind_in}
use Rattle.policy_writing.specs.Laying.{Laid}
use Rattle.policy_writing.proofs.all.Given as goal

abbrev pub invariant-loop-kind : goal.invariant-loop-kind
invariant-loop-kind l =
    Laid (in_turn l.kind (kind_in l.p)) (262144 * l.kind) l.initial.output l.output 0 l.at
