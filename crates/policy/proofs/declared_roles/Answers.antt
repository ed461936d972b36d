-- `declared_roles` meets its contract: the declared roles are word 0.
use mathlib.Core.Path.{refl}
use Rattle.policy.specs.Reading.{policy_of, people_in}
use Rattle.policy.proofs.declared_roles.Goals as goal

pub returns : goal.returns
unfolding policy_of people_in
returns c = refl
