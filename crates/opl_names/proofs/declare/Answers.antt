-- `declare` meets its contract: the name is found, refused because the table is full, or appended.
use Prim.Native.Nat.{◌+◌, ◌-◌}
use mathlib.Core.Path.{◌≡◌, refl, sym}
use native.Mathlib.Omega.{arith}
use lib.ListN.{take, drop}
use Rattle.opl_names.proofs.AppendLaws.{declared-there, declared-full, declared-new}
use Rattle.opl_names.proofs.declare.Goals as goal

pub returns-in-Some : goal.returns-in-Some
returns-in-Some c =
    let args = c.args in
    let z : args.at + args.size - args.at ≡ args.size = omega arith in
    declared-there args.s.now args.n args.t.now (take args.size (drop args.at args.s.now)) c.requires.0 c.in-Some.k (rw z at c.in-Some.ensures)

pub returns-then-n-k : goal.returns-then-n-k
returns-then-n-k c =
    let args = c.args in
    let z : args.at + args.size - args.at ≡ args.size = omega arith in
    declared-full args.s.now args.n args.t.now (take args.size (drop args.at args.s.now)) c.requires.0 (rw z at c.in_default.ensures)
    c.if-n-k.true

pub returns : goal.returns
returns c =
    let args = c.args in
    let pre = c.requires in
    let mark = c.mark-m in
    let append = c.append in
    let z : args.at + args.size - args.at ≡ args.size = omega arith in
    declared-new args.s.now args.n args.t.now (take args.size (drop args.at args.s.now)) pre.0 args.at args.size mark.result
    (sym (rw z at c.in_default.ensures)) (omega (arith, c.if-n-k.false)) pre.1.0 pre.1.1 refl
    (rw z at mark.ensures.0) append.new.t append.ensures
