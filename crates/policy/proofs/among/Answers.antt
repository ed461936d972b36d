-- `among` meets its contract: it compares the first number, and only then the second and the groups of eight.
use Rattle.policy.proofs.BucketLaws.{among_first, among-rest}
use Rattle.policy.proofs.among.Goals as goal

pub returns-then-first_in-b : goal.returns-then-first_in-b
returns-then-first_in-b c = among_first _ _ c.first_in.ensures.0 c.if-first_in-b.true

pub returns : goal.returns
returns c =
    among-rest _ _ c.first_in.ensures.0 c.if-first_in-b.false c.second_in.ensures.0
    c.eights_in.ensures.0 c.has-far.ensures
