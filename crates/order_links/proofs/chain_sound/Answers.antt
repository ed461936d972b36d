use Prim.Native.Nat.{◌+◌}
use Rattle.order_links.specs.Chains.{take_done}
use mathlib.Core.Path.{sym, ◌∙◌}
use native.Mathlib.Omega.{arith}
use Rattle.order_links.proofs.ChainLaws.{found, leads-turn, walk_turn, chain-astray, chain-end}
use Prim.Native.Nat.{◌-◌}
use Rattle.order_links.proofs.chain_sound.Goals as goal

pub returns-then-is_astray : goal.returns-then-is_astray
returns-then-is_astray c =
    let args = c.args in
    let loop = c.loop-passed in
    chain-astray args.o.now args.i args.m loop.h (c.count-n.result - loop._passed) (omega arith) (sym c.is_astray.ensures ∙ c.if-is_astray.true)
    loop.invariant.0

pub word-w-requires : goal.word-w-requires
word-w-requires c = let f = found _ _ _ _ (sym c.is_astray.ensures ∙ c.if-is_astray.false) in omega arith

pub loop-passed-preserved : goal.loop-passed-preserved
loop-passed-preserved c =
    let args = c.args in
    let loop = c.loop-passed in
    let left = c.count-n.result - loop._passed in
    let next = c.count-n.result - (loop._passed + 1) in
    rw (c.link-h.ensures, c.with_if-d.ensures, c.is_done.ensures, c.task.ensures, c.word-w.ensures) (
      leads-turn args.o.now args.i args.m loop.h left next (omega arith) (sym c.is_astray.ensures ∙ c.if-is_astray.false) loop.invariant.0,
      sym (walk_turn take_done args.o.now loop.h left next loop.d.bits (omega arith)) ∙ loop.invariant.1,
    )

pub returns : goal.returns
returns c =
    let args = c.args in
    let loop = c.loop-passed in
    rw c.figures_fit-fit.ensures
    (chain-end args.o.now args.i args.m loop.h (c.count-n.result - loop._passed) loop.d.bits (omega arith) loop.invariant.0 loop.invariant.1)
