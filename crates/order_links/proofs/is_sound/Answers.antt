-- `is_sound` meets its contract: it checks the free chain, the chain of entries set aside, and then those of the instances.
use mathlib.Core.Path.{sym}
use native.Mathlib.Omega.{arith}
use borrow.Author.Tests.{lt-ltb}
use Rattle.order_links.specs.Chains.{count_of, chain_word, sound_of}
use Rattle.order_links.proofs.ReadLaws.{read_past}
use Rattle.order_links.proofs.OnceLaws.{sum-ge}
use Rattle.order_links.proofs.CheckLaws.{one-fails, all_sound}
use Rattle.order_links.proofs.is_sound.Goals as goal

pub returns-then-m-gt-MOST : goal.returns-then-m-gt-MOST
unfolding sound_of
returns-then-m-gt-MOST c = rw (lt-ltb _ _ c.if-m-gt-MOST.true)

pub counted-free-requires : goal.counted-free-requires
counted-free-requires c =
    let args = c.args in
    (c.if-m-gt-MOST.false, (omega arith, (omega arith, sym (read_past args.o.now 64 (omega arith)))))

pub returns-then-m-free : goal.returns-then-m-free
returns-then-m-free c =
    let args = c.args in
    one-fails args.o.now c.if-m-gt-MOST.false 64 0 c.counted-free.result (omega arith) (omega arith) c.counted-free.ensures
    c.if-m-free.true

pub counted-beside-requires : goal.counted-beside-requires
counted-beside-requires c =
    let args = c.args in
    (c.if-m-gt-MOST.false, (c.if-m-free.false, (omega arith, sym (read_past args.o.now 65 (omega arith)))))

pub returns-then-m-beside : goal.returns-then-m-beside
returns-then-m-beside c =
    let args = c.args in
    let if1 = c.if-m-gt-MOST in
    let counted = c.counted-free in
    one-fails args.o.now if1.false 65 counted.result c.counted-beside.result (omega arith)
    (let e = (counted.ensures.fits c.if-m-free.false).0 in let s =
    sum-ge (λ i. count_of (chain_word args.o.now i)) 64 65 (omega arith) in omega arith) c.counted-beside.ensures c.if-m-beside.true

pub returns : goal.returns
returns c =
    let args = c.args in
    let if1 = c.if-m-gt-MOST in
    let counted = c.counted-free in
    let if2 = c.if-m-free in
    let counted2 = c.counted-beside in
    all_sound args.o.now if1.false counted.result counted2.result c.orders_sound.result counted.ensures if2.false counted2.ensures
    c.if-m-beside.false c.orders_sound.ensures
