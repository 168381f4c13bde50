use Prim.Native.Nat.{◌≤◌, ◌-◌}
use Rattle.laws.specs.Below.{one}
use Rattle.laws.specs.Columns.{number_at, is_set}
use Rattle.laws.specs.Inner.Columns.{HalfCol}
use Rattle.state_tables.proofs.flags.Given as goal

abbrev pub invariant-loop-q : goal.invariant-loop-q
invariant-loop-q l = HalfCol (λ i. one (is_set l.c i)) (number_at l.initial.r) 16 l.q l.r × (l.q ≤ 16)

abbrev pub decreases-loop-q : goal.decreases-loop-q
decreases-loop-q l = 16 - l.q
