use Prim.Native.Nat.{◌≤◌, ◌<◌, ◌-◌, ◌+◌, ◌*◌, ◌/◌, ◌%◌}
use Rattle.state_plan.specs.Plan.{bit}
use Rattle.laws.specs.Columns.{number_at}
use Rattle.laws.specs.Inner.Columns.{HalfCol}
use Rattle.state_plan.proofs.members_of.Given as goal

abbrev pub invariant-loop-q : goal.invariant-loop-q
invariant-loop-q l = HalfCol (λ i. bit (number_at l.mask (i % 16)) (i / 16)) (λ i. 0) 256 (l.a * 16 + l.q) l.r × (l.q ≤ 16) × (l.a < 16)

abbrev pub decreases-loop-q : goal.decreases-loop-q
decreases-loop-q l = 16 - l.q

abbrev pub invariant-loop-a : goal.invariant-loop-a
invariant-loop-a l = HalfCol (λ i. bit (number_at l.mask (i % 16)) (i / 16)) (λ i. 0) 256 (l.a * 16) l.r × (l.a ≤ 16)

abbrev pub decreases-loop-a : goal.decreases-loop-a
decreases-loop-a l = 16 - l.a
