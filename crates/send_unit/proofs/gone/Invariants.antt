use Prim.Native.Nat.{◌-◌, ◌≤◌}
use Rattle.codec_select.specs.Inner.Picks.{PutBytes}
use Rattle.send_unit.specs.Inner.Units.{zeros, gone_rows}
use Rattle.send_unit.proofs.gone.Given as goal

abbrev pub invariant-loop-a : goal.invariant-loop-a
invariant-loop-a l = PutBytes zeros 0 (gone_rows l.before l.after l.a) l.n l.list × (l.a ≤ 16)

abbrev pub decreases-loop-a : goal.decreases-loop-a
decreases-loop-a l = 16 - l.a
