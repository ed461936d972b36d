-- `permissions` meets its contract. The invariant of the loop: the records of all permissions below b are written.
use Rattle.paper_lower.specs.Sets.{has}
use Rattle.paper_lower.specs.Written.{in_turn, when, row}
use Rattle.policy_writing.specs.Lines.{side_in}
use Rattle.policy_writing.specs.Laying.{Laid}
use Rattle.policy_writing.proofs.permissions.Given as goal

abbrev pub invariant-loop-b : goal.invariant-loop-b
invariant-loop-b l =
    Laid (in_turn l.b (λ i. when (has (side_in l.p l.kind i) l.a) (row l.kind 0 l.a i 0 0))) l.b l.initial.output l.output l.place l.at
