use Prim.Native.Nat.{◌≤◌, ◌-◌, ◌/◌}
use Rattle.event_units.specs.Inner.Rows.{Rows}
use Rattle.event_units.proofs.clear_rows.Given as goal

abbrev pub invariant-loop-a : goal.invariant-loop-a
invariant-loop-a g l = Rows l.zero l.go (λ i. i / 8) l.a l.initial.c l.c × (l.a ≤ 16)

abbrev pub decreases-loop-a : goal.decreases-loop-a
decreases-loop-a g l = 16 - l.a
