use Prim.Native.Nat.{◌≤◌, ◌-◌}
use mathlib.Core.Bool.{◌&&◌, not}
use Rattle.laws.specs.Below.{one}
use Rattle.laws.specs.Columns.{number_at, is_set}
use Rattle.laws.specs.Inner.Columns.{HalfOf}
use Rattle.abi_query.proofs.new_in.Given as goal

abbrev pub invariant-loop-a : goal.invariant-loop-a
invariant-loop-a l = HalfOf 0 (λ i. one (is_set l.x i && not (is_set l.y i))) (number_at l.initial.r) 16 l.a l.r × (l.a ≤ 16)

abbrev pub decreases-loop-a : goal.decreases-loop-a
decreases-loop-a l = 16 - l.a
