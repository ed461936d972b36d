-- `read` meets its contract, by cases of the tag that `read_tag` returns.
use native.Mathlib.Omega.{arith}
use mathlib.Core.Path.{refl, ap}
use Rattle.std.specs.Prelude.{Some}
use Rattle.opl_turns.proofs.ListLaws.{read-over, read-ended, read-stands, read-begun}
use borrow.Author.Rules.{rules}
use Rattle.opl_turns.proofs.read.Goals as goal

pub slice_bounds-element-count : goal.slice_bounds-element-count
slice_bounds-element-count c =
    let args = c.args in
    let t = c.in-Start in
    let o = read-stands args.s.now args.at _ c.in_ok-t.ensures t.name t.end (ap Some t.is) in
    omega (arith, o.named)

pub slice_bounds-element-start : goal.slice_bounds-element-start
slice_bounds-element-start c =
    let args = c.args in
    let t = c.in-Start in
    let o = read-stands args.s.now args.at _ c.in_ok-t.ensures t.name t.end (ap Some t.is) in
    search rules

pub slice_bounds-element-end : goal.slice_bounds-element-end
slice_bounds-element-end c =
    let args = c.args in
    let t = c.in-Start in
    let o = read-stands args.s.now args.at _ c.in_ok-t.ensures t.name t.end (ap Some t.is) in
    search rules

pub returns-in_err-t : goal.returns-in_err-t
returns-in_err-t c =
    let args = c.args in
    rw c.from_residual.ensures (read-over args.s.now args.at _ c.in_err-t.ensures refl)

pub returns-in-End : goal.returns-in-End
returns-in-End c =
    let args = c.args in
    read-ended args.s.now args.at _ c.in_ok-t.ensures c.in-End.next (ap Some c.in-End.is)

pub returns-in-Start : goal.returns-in-Start
returns-in-Start c =
    let args = c.args in
    let t = c.in-Start in
    (read-begun args.s.now args.at _ c.in_ok-t.ensures t.name t.end (ap Some t.is) c.element-id.result c.element-id.ensures, refl)
