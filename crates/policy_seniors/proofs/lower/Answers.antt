-- `lower` meets its contract: it replaces the row if role r is a or is above a, and otherwise stores nothing.
use Rattle.policy_seniors.proofs.Raising.{row_kept}
use Rattle.policy_seniors.proofs.lower.Goals as goal

pub returns-else-r-a : goal.returns-else-r-a
returns-else-r-a c = row_kept _ _ _ _ c.below-roles.ensures c.has.ensures c.if-r-a.false
