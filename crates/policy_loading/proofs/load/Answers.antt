-- `load` meets its contract: it empties the buffer after a refusal, and otherwise keeps what `run` left.
use mathlib.Core.Path.{refl}
use borrow.Author.Rules.{rules}
use Rattle.policy_loading.proofs.Turns.{ends-refused, ends-accepted}
use Rattle.policy_loading.proofs.load.Goals as goal

pub returns-then-is_err : goal.returns-then-is_err
returns-then-is_err c =
    ends-refused c.args.bytes.now c.args.policy.now _ _ (c.in-Some.ensures.variant.0 refl) c.clear.ensures c.run-answer.result c.if-is_err.ensures.value
    c.run-answer.ensures _ (search rules)

pub returns-else-is_err : goal.returns-else-is_err
returns-else-is_err c =
    ends-accepted c.args.bytes.now c.args.policy.now _ _ (c.in-Some.ensures.variant.0 refl) c.clear.ensures c.run-answer.result c.if-is_err.ensures.value
    c.run-answer.ensures _ refl
