-- `said` meets its contract, kind by kind; other kinds have no row in the table of the definition.
use native.Mathlib.Omega.{arith}
use Rattle.opl_said.specs.Said.{all_names}
use Rattle.opl_said.proofs.FormLaws.{role-inner, task-inner, few-roles, few-tasks}
use Rattle.opl_said.proofs.SaidLaws.{says-1, says-2, says-3, says-4, says-5, says-7, says-8, says-9, says-10, says-11, says-12, says-13, says-14, says-15, says-16, says-17, says-18, says_nothing}
use borrow.Author.Rules.{rules}
use borrow.Author.Tests.{eqb-true, eqb-false}
use lib.Dec.{eqb}
use mathlib.Core.Path.{◌≡◌}
use Rattle.paper_opl.proofs.Inversion.{on_test}
use Rattle.opl_said.proofs.said.Goals as goal

pub of_set-requires : goal.of_set-requires
of_set-requires c =
    let pre = c.requires in
    (pre.0, ((omega (arith, c.cardinality-n.ensures, pre.1.1), omega arith), (pre.1.0, (task-inner, (omega arith, few-tasks)))))

pub of_set-requires-in-9 : goal.of_set-requires-in-9
of_set-requires-in-9 c =
    let pre = c.requires in
    (pre.0, ((omega (arith, c.cardinality-n-in-9.ensures, pre.1.1), omega arith), (pre.1.0, (role-inner, (omega arith, few-roles)))))

pub returns-in-1 : goal.returns-in-1
returns-in-1 c =
    let args = c.args in
    let x = args.texts in
    rw c.in-1.is
    (says-1 (all_names x.policy.now x.lines.now) x.policy.now args.number args.tag.end c.one.result c.one.ensures)

pub returns-in-2 : goal.returns-in-2
returns-in-2 c =
    let args = c.args in
    let x = args.texts in
    rw c.in-2.is
    (says-2 (all_names x.policy.now x.lines.now) x.policy.now args.number args.tag.end c.one-in-2.result c.one-in-2.ensures)

pub returns-in-3 : goal.returns-in-3
returns-in-3 c =
    let args = c.args in
    let x = args.texts in
    rw c.in-3.is
    (says-3 (all_names x.policy.now x.lines.now) x.policy.now args.number args.tag.end c.permission.result c.permission.ensures)

pub returns-in-4 : goal.returns-in-4
returns-in-4 c =
    let args = c.args in
    let x = args.texts in
    rw c.in-4.is
    (says-4 (all_names x.policy.now x.lines.now) x.policy.now args.number args.tag.end c.two.result c.two.ensures)

pub returns-in-5 : goal.returns-in-5
returns-in-5 c =
    let args = c.args in
    let x = args.texts in
    rw c.in-5.is
    (says-5 (all_names x.policy.now x.lines.now) x.policy.now args.number args.tag.end c.two-in-5.result c.two-in-5.ensures)

pub returns-in-7 : goal.returns-in-7
returns-in-7 c =
    let args = c.args in
    let x = args.texts in
    rw c.in-7.is
    (says-7 (all_names x.policy.now x.lines.now) x.policy.now args.number args.tag.end c.two-in-7.result c.two-in-7.ensures)

pub returns-in-8 : goal.returns-in-8
returns-in-8 c =
    let args = c.args in
    let x = args.texts in
    rw c.in-8.is
    (says-8 (all_names x.policy.now x.lines.now) x.policy.now args.number args.tag.end c.two-in-8.result c.two-in-8.ensures)

pub returns-in-12 : goal.returns-in-12
returns-in-12 c =
    let args = c.args in
    let x = args.texts in
    rw c.in-12.is
    (says-12 (all_names x.policy.now x.lines.now) x.policy.now args.number args.tag.end c.partition.result c.partition.ensures)

pub returns-in-13 : goal.returns-in-13
returns-in-13 c =
    let args = c.args in
    let x = args.texts in
    rw c.in-13.is
    (says-13 (all_names x.policy.now x.lines.now) x.policy.now args.number args.tag.end c.one-in-13.result c.one-in-13.ensures)

pub returns-in-14 : goal.returns-in-14
returns-in-14 c =
    let args = c.args in
    let x = args.texts in
    rw c.in-14.is
    (says-14 (all_names x.policy.now x.lines.now) x.policy.now args.number args.tag.end c.counted.result c.counted.ensures)

pub returns-in-15 : goal.returns-in-15
returns-in-15 c =
    let args = c.args in
    let x = args.texts in
    rw c.in-15.is
    (says-15 (all_names x.policy.now x.lines.now) x.policy.now args.number args.tag.end c.two-in-15.result c.two-in-15.ensures)

pub returns-in-16 : goal.returns-in-16
returns-in-16 c =
    let args = c.args in
    let x = args.texts in
    rw c.in-16.is
    (says-16 (all_names x.policy.now x.lines.now) x.policy.now args.number args.tag.end c.two-in-16.result c.two-in-16.ensures)

pub returns-in-17 : goal.returns-in-17
returns-in-17 c =
    let args = c.args in
    let x = args.texts in
    rw c.in-17.is
    (says-17 (all_names x.policy.now x.lines.now) x.policy.now args.number args.tag.end c.two-in-17.result c.two-in-17.ensures)

pub returns-in-18 : goal.returns-in-18
returns-in-18 c =
    let args = c.args in
    let x = args.texts in
    rw c.in-18.is
    (says-18 (all_names x.policy.now x.lines.now) x.policy.now args.number args.tag.end c.blocked.result c.blocked.ensures)

pub returns-in-11 : goal.returns-in-11
returns-in-11 c =
    let args = c.args in
    let x = args.texts in
    rw c.in-11.is
    (says-11 (all_names x.policy.now x.lines.now) x.policy.now args.number args.tag.end c.of_set.result (rw c.cardinality-n.ensures at c.of_set.ensures))

pub returns-in-9 : goal.returns-in-9
returns-in-9 c =
    let args = c.args in
    let x = args.texts in
    let set = rw c.cardinality-n-in-9.ensures at c.of_set-in-9.ensures in
    on_test (eqb args.kind 9)
    (λ q. rw (eqb-true args.kind 9 q) (says-9 (all_names x.policy.now x.lines.now) x.policy.now args.number args.tag.end c.of_set-in-9.result set))
    (λ q.
    let z : args.kind ≡ 10 = omega (arith, eqb-false args.kind 9 q) in
    rw z (says-10 (all_names x.policy.now x.lines.now) x.policy.now args.number args.tag.end c.of_set-in-9.result set))

pub returns-in_default : goal.returns-in_default
returns-in_default c =
    let x = c.args.texts in
    says_nothing (all_names x.policy.now x.lines.now) x.policy.now c.args.kind c.args.number c.args.tag.end (search rules)

pub returns-in_default-2 : goal.returns-in_default-2
returns-in_default-2 c =
    let x = c.args.texts in
    says_nothing (all_names x.policy.now x.lines.now) x.policy.now c.args.kind c.args.number c.args.tag.end (search rules)
