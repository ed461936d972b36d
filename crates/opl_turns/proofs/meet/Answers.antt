-- `meet` meets its contract: it takes the next entry of the list, and after the last entry it reads the text.
use native.Mathlib.Omega.{arith}
use Rattle.opl_spaces.specs.Spaces.{list_of}
use Rattle.opl_turns.proofs.ListLaws.{met-read, met-entry, count_at, entry_at}
use Rattle.opl_turns.proofs.meet.Goals as goal

pub overflow_add-x-then-entry-n : goal.overflow_add-x-then-entry-n
overflow_add-x-then-entry-n c =
    let pre = c.requires in
    let args = c.args in
    omega (arith, pre.1.1.room, count_at args.w.now, c.if-entry-n.true)

pub offset_bounds-w-entry : goal.offset_bounds-w-entry
offset_bounds-w-entry c =
    let pre = c.requires in
    let args = c.args in
    omega (arith, pre.1.1.room, count_at args.w.now, c.if-entry-n.true)

pub bounds-w-entry : goal.bounds-w-entry
bounds-w-entry c =
    let pre = c.requires in
    let args = c.args in
    omega (arith, pre.1.1.room, count_at args.w.now, c.if-entry-n.true)

pub overflow_add-result : goal.overflow_add-result
overflow_add-result c =
    let pre = c.requires in
    let args = c.args in
    omega (arith, pre.1.1.room, count_at args.w.now, c.if-entry-n.true)

pub returns-then-entry-n : goal.returns-then-entry-n
returns-then-entry-n c =
    let args = c.args in
    let pre = c.requires in
    rw (entry_at args.w.now args.entry) at
    (met-entry args.s.now (list_of args.w.now) args.at args.entry pre.1.1 (omega (arith, count_at args.w.now, c.if-entry-n.true)))

pub returns : goal.returns
returns c =
    let args = c.args in
    let pre = c.requires in
    met-read args.s.now (list_of args.w.now) args.at args.entry pre.1.1 (omega (arith, count_at args.w.now, c.if-entry-n.false))
    c.read.result c.read.ensures
