-- `write_line` meets its contract: the record goes to its place.
use Rattle.opl_said.specs.Said.{all_names}
use Rattle.opl_passes.proofs.LineLaws.{line-fits, line-written}
use Rattle.opl_passes.proofs.write_line.Goals as goal

pub put-requires : goal.put-requires
put-requires c =
    let args = c.args in
    let x = args.texts in
    let pre = c.requires in
    let row = c.in-Some.row in
    line-fits (all_names x.policy.now x.lines.now) x.lines.now args.at pre.1.0 row.a row.b row.next c.in-Some.ensures args.place args.out.now pre.1.1

pub returns : goal.returns
returns c =
    let args = c.args in
    let x = args.texts in
    let pre = c.requires in
    let row = c.in-Some.row in
    let put = c.put in
    line-written (all_names x.policy.now x.lines.now) x.lines.now args.at pre.1.0 row.a row.b row.next c.in-Some.ensures args.place args.out.now
    put.new.out put.ensures put.auto.out
