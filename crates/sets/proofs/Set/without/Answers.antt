-- `without` meets its contract: the mask clears bit i and keeps all other bits.
use mathlib.Core.Path.{ap, ◌∙◌}
use Prim.Native.Nat.{ℕ, ◌-◌, ◌^◌}
use lib.Bits.{bit_and}
use Rattle.sets.proofs.Bits.{one_shl}
use Rattle.sets.proofs.SetLaws.{minus-mask}
use borrow.Author.Rules.{rules}
use Rattle.sets.proofs.Set.without.Goals as goal

pub returns : goal.returns
returns c =
    let m = c.args.self.bits in
    let i = c.args.i in
    ap (λ (x : ℕ). bit_and m (2 ^ 64 - 1 - x)) (one_shl i c.requires) ∙ minus-mask 64 m i (search rules) c.requires
