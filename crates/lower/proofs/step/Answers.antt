-- `step` meets its contract: each arm is the contract of the function for its kind, as a step of both buffers.
-- The check finds all arms but this one, whose contract holds for every policy.
use Rattle.paper_lower.specs.Kinds.{chosen}
use Rattle.paper_lower.specs.Roles.{role_kinds}
use Rattle.paper_lower.specs.Sessions.{lower_kinds, session_kinds}
use Rattle.policy.specs.Reading.{policy_of}
use Rattle.lower.proofs.Lifts.{of_sessions}
use Rattle.lower.proofs.step.Goals as goal

pub returns-in-41 : goal.returns-in-41
unfolding chosen lower_kinds role_kinds session_kinds
returns-in-41 c = rw c.in-41.is (of_sessions (c.destroy.ensures (policy_of c.args.p.now)))
