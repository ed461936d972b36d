-- `mishantral_pile` meets its contract: it is `pile`, and returns the reply's number.
use Rattle.call_pile.proofs.Ways.{as_number}
use Rattle.call_pile.proofs.mishantral_pile.Goals as goal

pub returns : goal.returns
returns c = as_number c.pile-r.ensures c.number.ensures
