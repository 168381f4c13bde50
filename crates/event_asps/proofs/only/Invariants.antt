use Prim.Native.Nat.{◌≤◌, ◌-◌}
use lib.Dec.{eqb}
use Rattle.laws.specs.Columns.{flag_at}
use Rattle.laws.specs.Inner.Columns.{Half}
use Rattle.event_asps.proofs.only.Given as goal

abbrev pub invariant-loop-c : goal.invariant-loop-c
invariant-loop-c l = Half (λ i. eqb i l.a) (flag_at l.initial.r) 16 l.c l.r × (l.c ≤ 16)

abbrev pub decreases-loop-c : goal.decreases-loop-c
decreases-loop-c l = 16 - l.c
