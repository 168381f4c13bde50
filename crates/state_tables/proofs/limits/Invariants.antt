use Prim.Native.Nat.{◌≤◌, ◌-◌}
use lib.Dec.{ltb}
use Rattle.laws.specs.Columns.{number_at}
use Rattle.laws.specs.Inner.Columns.{HalfCol}
use Rattle.state_tables.specs.Inner.Limits.{limit}
use Rattle.state_tables.proofs.limits.Given as goal

abbrev pub invariant-loop-q : goal.invariant-loop-q
invariant-loop-q l = HalfCol (λ i. limit (ltb i l.n) l.most) (number_at l.initial.r) 16 l.q l.r × (l.q ≤ 16)

abbrev pub decreases-loop-q : goal.decreases-loop-q
decreases-loop-q l = 16 - l.q
