-- `name_all` meets its contract: five spaces have the names of the tags, and two have those of the task lines.
use Rattle.opl_naming.proofs.NamingLaws.{empty-sound, tasks-sound, templates-sound, named-all}
use mathlib.Core.Path.{◌∙◌}
use native.Mathlib.Omega.{arith}
use Rattle.opl_naming.proofs.name_all.Goals as goal

pub declare_tags-requires : goal.declare_tags-requires
declare_tags-requires c =
    let pre = c.requires in
    let args = c.args in
    let empty-all = c.empty_all in (
      empty-all.ensures.room ∙ pre.0,
      (empty-sound args.s.now args.t.now args.from pre.1.1.0 args.w.now empty-all.new.w empty-all.new.w pre.0 empty-all.ensures, pre.1.0),
    )

pub declare_lines-requires : goal.declare_lines-requires
declare_lines-requires c =
    let pre = c.requires in
    let args = c.args in
    let empty-all = c.empty_all in
    let tags = c.in_ok-declare_tags.ensures in (
      (tags.room ∙ empty-all.ensures.room ∙ pre.0, omega arith),
      (
        tasks-sound args.s.now args.t.now args.from pre.1.1.0 args.w.now empty-all.new.w c.declare_tags.new.w pre.0 empty-all.ensures tags,
        pre.1.1.1,
      ),
    )

pub declare_lines-requires-2 : goal.declare_lines-requires-2
declare_lines-requires-2 c =
    let pre = c.requires in
    let args = c.args in
    let empty-all = c.empty_all in
    let tags = c.in_ok-declare_tags.ensures in
    let tasks = c.in_ok-declare_lines.ensures in (
      (tasks.apart.room ∙ tags.room ∙ empty-all.ensures.room ∙ pre.0, omega arith),
      (
        templates-sound args.s.now args.t.now args.from pre.1.1.0 args.w.now empty-all.new.w c.declare_tags.new.w pre.0 empty-all.ensures tags
            c.declare_lines.new.w tasks,
        pre.1.1.1,
      ),
    )

pub returns : goal.returns
returns c =
    let args = c.args in
    let pre = c.requires in
    let empty-all = c.empty_all in
    let last = c.declare_lines-2 in
    named-all args.s.now args.t.now args.from pre.1.1.0 args.w.now empty-all.new.w c.declare_tags.new.w c.declare_lines.new.w last.new.w pre.0
    empty-all.ensures c.in_ok-declare_tags.ensures c.in_ok-declare_lines.ensures last.result last.ensures
