use Prim.Native.Nat.{◌≤◌, ◌-◌}
use mathlib.Core.Bool.{◌&&◌, not}
use lib.Dec.{ltb}
use Rattle.laws.specs.Columns.{flag_at, is_set, number_at}
use Rattle.laws.specs.Inner.Columns.{Half}
use Rattle.event_units.proofs.let_go.Given as goal

abbrev pub invariant-loop-a : goal.invariant-loop-a
invariant-loop-a l = Half (λ i. ltb 0 (number_at l.count i) && (flag_at l.named i && not (is_set l.waiting i))) (flag_at l.initial.r) 16 l.a l.r × (l.a ≤ 16)

abbrev pub decreases-loop-a : goal.decreases-loop-a
decreases-loop-a l = 16 - l.a
