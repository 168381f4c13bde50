use Prim.Native.Nat.{◌-◌, ◌≤◌}
use Rattle.codec_select.specs.Inner.Picks.{PutBytes}
use Rattle.send_unit.specs.Inner.Units.{row_to}
use Rattle.send_unit.proofs.add_row.Given as goal

abbrev pub invariant-loop-k : goal.invariant-loop-k
invariant-loop-k l = PutBytes l.initial.list l.n (row_to l.before l.after l.a l.k) l.at l.list × (l.k ≤ 8)

abbrev pub decreases-loop-k : goal.decreases-loop-k
decreases-loop-k l = 8 - l.k
