-- `counted` meets its contract in three cases: the chain is not read, the sum is above m, or the links are followed.
use Prim.Native.Nat.{ℕ}
use mathlib.Core.Path.{sym, subst, ◌∙◌}
use native.Mathlib.Omega.{arith}
use Rattle.order_links.specs.Chains.{Counted}
use Rattle.order_links.proofs.ReadLaws.{chain-read}
use Rattle.order_links.proofs.CheckLaws.{not-read, too_many, walked}
use Rattle.order_links.proofs.counted.Goals as goal

pub returns-then-not-reads : goal.returns-then-not-reads
returns-then-not-reads c =
    let args = c.args in
    let pre = c.requires in
    not-read args.o.now args.m args.i args.n pre.1.1.0 pre.1.0 (sym pre.1.1.1 ∙ c.if-not-reads.true)

pub returns-then-m-all : goal.returns-then-m-all
returns-then-m-all c =
    let args = c.args in
    let pre = c.requires in
    too_many args.o.now args.m args.i args.n _
    (let e = chain-read args.o.now args.i (sym pre.1.1.1 ∙ c.if-not-reads.false) in omega arith) c.if-m-all.true

pub chain_sound-sound-requires : goal.chain_sound-sound-requires
chain_sound-sound-requires c =
    let pre = c.requires in
    let args = c.args in
    let if1 = c.if-not-reads in (
      pre.0,
      (
        pre.1.1.0,
        (
          sym pre.1.1.1 ∙ if1.false,
          c.chain_at-x.ensures ∙ sym (chain-read args.o.now args.i (sym pre.1.1.1 ∙ if1.false)),
        ),
      ),
    )

pub returns : goal.returns
returns c =
    let args = c.args in
    let pre = c.requires in
    let if1 = c.if-not-reads in
    subst (λ (r : ℕ). Counted args.o.now args.m args.i args.n r) (sym c.pick.ensures) (walked args.o.now args.m args.i args.n _
    c.chain_sound-sound.result pre.0 (omega arith)
    (let e = chain-read args.o.now args.i (sym pre.1.1.1 ∙ if1.false) in omega arith) c.chain_sound-sound.ensures)
