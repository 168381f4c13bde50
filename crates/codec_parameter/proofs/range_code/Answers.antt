use lib.ListN.{length}
use borrow.Author.Tests.{lt-leb, le-leb}
use Rattle.laws.specs.Below.{all_below}
use Rattle.laws.specs.Inner.Below.{all_next, all_not}
use Rattle.laws.specs.Inner.Choice.{choices}
use Rattle.codec_parameter.specs.Value.{range_code}
use Rattle.codec_wire.specs.Number.{be}
use Prim.Native.Nat.{◌+◌, ◌*◌, ◌/◌}
use mathlib.Core.Bool.{true}
use mathlib.Core.Path.{◌≡◌, refl}
use native.Mathlib.Omega.{arith}
use Rattle.codec_parameter.proofs.range_code.Invariants.{ordered}
use Rattle.codec_parameter.proofs.range_code.Goals as goal

pub loop-k-init : goal.loop-k-init
unfolding all_below
loop-k-init c = refl

pub returns-then-stop-start : goal.returns-then-stop-start
unfolding range_code
returns-then-stop-start c = let v = c.args.v.now in let k = c.loop-k.k in let e = all_not (ordered v) (length v / 8) k (omega arith) (lt-leb (be 4 v (k * 8)) (be 4 v (k * 8 + 4)) (omega arith)) in search choices

pub loop-k-preserved : goal.loop-k-preserved
unfolding range_code
loop-k-preserved c = let v = c.args.v.now in let k = c.loop-k.k in all_next (ordered v) k c.loop-k.invariant (le-leb (be 4 v (k * 8)) (be 4 v (k * 8 + 4)) (omega arith))

pub returns : goal.returns
unfolding range_code
returns c = let v = c.args.v.now in let n : c.loop-k.k ≡ length v / 8 = omega arith in let e : all_below (ordered v) (length v / 8) ≡ true = rw n at c.loop-k.invariant in search choices
