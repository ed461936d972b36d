-- `write_all` meets its contract, by cases: from the kept records if there was room for all, or else from the text again.
use native.Mathlib.Omega.{arith}
use Rattle.opl_said.specs.Said.{all_names}
use Rattle.opl_tags.specs.Tags.{walk_at}
use Rattle.opl_passes.proofs.TagLaws.{all_fit}
use Rattle.opl_passes.proofs.write_all.Goals as goal

pub write_kept-requires : goal.write_kept-requires
write_kept-requires c =
    let pre = c.requires in
    let args = c.args in
    let x = args.texts in (
      pre.0.0.0.room,
      (
        omega (arith, c.if-n-gt-KEPT.false),
        all_fit (all_names x.policy.now x.lines.now) (walk_at x.policy.now args.from) x.scratch.now args.n args.next.now args.out.now
            (pre.1 c.if-n-gt-KEPT.false) pre.0.1.1,
      ),
    )
