use Rattle.laws.specs.Columns.{flag_at, number_at}
use Rattle.laws.specs.Below.{any_below}
use lib.Dec.{eqb}
use mathlib.Core.Bool.{not, ◌&&◌}
use mathlib.Core.Path.{◌≡◌}
use Prim.Native.Nat.{◌≤◌, ◌-◌}
use Rattle.state_sets.specs.Inner.Members.{members}
use Rattle.event_traffic.proofs.some_other.Given as goal

abbrev pub invariant-loop-a : goal.invariant-loop-a
invariant-loop-a l = (l.found ≡ any_below (λ i. flag_at (members l.named) i && not (eqb (number_at l.mode i) l.m)) l.a) × (l.a ≤ 16)

abbrev pub decreases-loop-a : goal.decreases-loop-a
decreases-loop-a l = 16 - l.a
