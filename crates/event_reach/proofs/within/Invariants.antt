use Prim.Native.Nat.{◌≤◌, ◌-◌}
use mathlib.Core.Bool.{◌&&◌}
use lib.Dec.{ltb}
use Rattle.laws.specs.Columns.{flag_at}
use Rattle.laws.specs.Inner.Columns.{Half}
use Rattle.event_reach.proofs.within.Given as goal

abbrev pub invariant-loop-a : goal.invariant-loop-a
invariant-loop-a l = Half (λ i. ltb i l.ases && flag_at l.row i) (flag_at l.initial.r) 16 l.a l.r × (l.a ≤ 16)

abbrev pub decreases-loop-a : goal.decreases-loop-a
decreases-loop-a l = 16 - l.a
