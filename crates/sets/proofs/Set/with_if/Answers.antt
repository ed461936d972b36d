-- `with_if` meets its contract, by those of `with` and `pick`.
use Prim.Native.Nat.{ℕ}
use mathlib.Core.Bool.{cond}
use mathlib.Core.Path.{ap, ◌∙◌}
use Rattle.sets.proofs.Set.with_if.Goals as goal

pub returns : goal.returns
returns c =
    let a = c.args in
    c.pick.ensures ∙ ap (λ (m : ℕ). cond a.more m a.self.bits) c.with-joined.ensures
