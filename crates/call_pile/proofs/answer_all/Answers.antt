use Prim.Native.Nat.{◌+◌, ◌-◌}
use mathlib.Core.Path.{◌≡◌, refl, ap, ◌∙◌}
use native.Mathlib.Omega.{arith}
use lib.ListN.{length-set}
use Rattle.replies.specs.Replies.{number_of}
use Rattle.call_pile.proofs.Turns.{begun, still-sound, turned, ended, small}
use borrow.Author.Rules.{rules}
use Rattle.call_pile.proofs.answer_all.Goals as goal

pub loop-i-init : goal.loop-i-init
loop-i-init c =
    let pre = c.requires in
    (refl, (refl, (pre.1.1.1, begun _ _ _ _ pre.1.1.0)))

pub ask-outcome-requires : goal.ask-outcome-requires
ask-outcome-requires c = c.loop-i.invariant.1.1.0

pub overflow_cast-out : goal.overflow_cast-out
overflow_cast-out c = let h = small c.ask-outcome.ensures in search rules

pub loop-i-preserved : goal.loop-i-preserved
loop-i-preserved c =
    let ask = c.ask-outcome in
    let v = c.loop-i in
    let h : v.at + 16 - v.at ≡ 16 = omega arith in (
      omega arith,
      (
        length-set v.out v.i c.number.result ∙ v.invariant.1.0,
        (
          λ e. still-sound ask.ensures (v.invariant.1.1.0 e),
          turned v.invariant.1.1.1 h ask.ensures (c.number.ensures ∙ ap number_of c.reply.ensures) (omega arith) (omega arith),
        ),
      ),
    )

pub returns : goal.returns
returns c = ended c.loop-i.invariant.1.1.1 (omega arith)
