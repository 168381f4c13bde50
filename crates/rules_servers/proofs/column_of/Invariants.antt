use Prim.Native.Nat.{◌≤◌, ◌-◌, ◌+◌, ◌*◌}
use Rattle.laws.specs.Columns.{flag_at, is_set}
use Rattle.laws.specs.Inner.Columns.{Half}
use Rattle.rules_servers.proofs.column_of.Given as goal

abbrev pub invariant-loop-a : goal.invariant-loop-a
invariant-loop-a l = Half (λ i. is_set l.column (i * 16 + l.p)) (flag_at l.initial.r) 16 l.a l.r × (l.a ≤ 16)

abbrev pub decreases-loop-a : goal.decreases-loop-a
decreases-loop-a l = 16 - l.a
