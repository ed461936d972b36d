-- `inner` meets its contract: it tests for six elements.
use Rattle.opl_said.proofs.MemberLaws.{inner-is}
use Rattle.opl_said.proofs.inner.Goals as goal

pub returns : goal.returns
returns c = inner-is c.args.id
