use Prim.Native.Nat.{◌+◌}
use mathlib.Core.Path.{◌≡◌}
use native.Mathlib.Omega.{arith}
use borrow.Author.Rules.{rules}
use Rattle.laws.specs.Inner.Columns.{half_end, half_more, half_at}
use Rattle.state_tables.specs.Inner.Differ.{pad_with, pad_half, pad_more}
use Rattle.state_tables.proofs.padded.Goals as goal

pub loop-q-init : goal.loop-q-init
loop-q-init c = (pad_half c.args.aspid.now c.args.x, search rules)

pub loop-q-preserved : goal.loop-q-preserved
loop-q-preserved c =
    let e : c.loop-q.q + 16 + 1 ≡ c.loop-q.q + 1 + 16 = omega arith in
    (half_at e (half_more _ c.loop-q.invariant.0 (omega arith) (pad_more c.args.aspid.now c.args.x c.loop-q.q)), search rules)

pub returns : goal.returns
unfolding pad_with
returns c = half_end c.loop-q.invariant.0 (omega arith)
