use mathlib.Core.Bool.{not}
use mathlib.Core.Path.{refl, ap}
use borrow.Author.Rules.{rules}
use Rattle.policy.specs.Reading.{policy_of}
use Rattle.paper_upper.specs.Rules.{block_within, block}
use Rattle.order_rules.specs.Judging.{place_if_any}
use Rattle.order_rules.proofs.BlockLaws.{none_apart}
use Rattle.order_rules.proofs.Places.{first-found}
use Rattle.order_rules.proofs.block.Goals as goal

pub returns-then-not-has_apart : goal.returns-then-not-has_apart
returns-then-not-has_apart c = ap place_if_any (none_apart _ _ _ c.has_apart.ensures (ap not c.if-not-has_apart.true))

pub returns : goal.returns
unfolding block
returns c = first-found (block_within (policy_of c.args.p.now).rules c.args.d.bits c.args.t) 16 refl _ c.find_map.result c.find_map.ensures.runs (λ x b q k. search rules)
