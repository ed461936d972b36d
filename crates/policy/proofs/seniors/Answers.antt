-- `seniors` meets its contract: it reads their word.
use mathlib.Core.Path.{refl}
use Rattle.policy.specs.Layout.{seniors_in}
use Rattle.policy.proofs.seniors.Goals as goal

pub returns : goal.returns
unfolding seniors_in
returns c = refl
