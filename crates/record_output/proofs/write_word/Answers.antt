-- `write_word` meets its contract: the eight bytes of std are those of the definition.
use Prim.Native.Nat.{◌+◌, ◌-◌}
use mathlib.Core.Path.{◌≡◌, refl}
use native.Mathlib.Omega.{arith}
use borrow.Rule.Slice.PartMut.{put_mid}
use lib.Seq.{drop-drop}
use Rattle.record_output.specs.Output.{laid}
use Rattle.record_output.proofs.Words.{word-bytes}
use Rattle.record_output.proofs.write_word.Goals as goal

pub returns : goal.returns
unfolding laid
returns c =
    let args = c.args in
    let n : args.at + 8 - args.at ≡ 8 = omega arith in
    rw (n, c.copy_from_slice.ensures.after, c.to_le_bytes.ensures, word-bytes args.x, drop-drop 8 args.at args.out.now) refl
