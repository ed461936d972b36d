-- `declared_row` meets its contract: it reads the word of a row that counts.
use mathlib.Core.Path.{sym, ◌∙◌}
use Rattle.policy.specs.Reading.{policy_of}
use Rattle.policy.proofs.WordLaws.{value_none}
use Rattle.policy.proofs.BucketLaws.{declared-value}
use Rattle.policy.proofs.declared_row.Goals as goal

pub returns-then-permission_declared : goal.returns-then-permission_declared
unfolding policy_of
returns-then-permission_declared c =
    let there = sym c.permission_declared.ensures ∙ c.if-permission_declared.true in
    (declared-value _ _ c.requires (λ x. x.operation) there, declared-value _ _ c.requires (λ x. x.object) there)

pub returns-else-permission_declared : goal.returns-else-permission_declared
returns-else-permission_declared c =
    let none = sym c.permission_declared.ensures ∙ c.if-permission_declared.false in
    (sym (value_none (λ x. x.operation) _ none), sym (value_none (λ x. x.object) _ none))
