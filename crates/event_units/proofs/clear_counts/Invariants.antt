use Prim.Native.Nat.{◌≤◌, ◌-◌}
use Rattle.event_units.specs.Inner.Rows.{Rows}
use Rattle.event_units.proofs.clear_counts.Given as goal

abbrev pub invariant-loop-a : goal.invariant-loop-a
invariant-loop-a l = Rows 0 l.go (λ i. i) l.a l.initial.c l.c × (l.a ≤ 16)

abbrev pub decreases-loop-a : goal.decreases-loop-a
decreases-loop-a l = 16 - l.a
