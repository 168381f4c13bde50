use Prim.Native.Nat.{◌≤◌, ◌-◌, ◌+◌, ◌*◌}
use Rattle.laws.specs.Columns.{flag_at, is_set}
use Rattle.laws.specs.Inner.Columns.{Half}
use Rattle.rules_server.proofs.row_of.Given as goal

abbrev pub invariant-loop-q : goal.invariant-loop-q
invariant-loop-q l = Half (λ i. is_set l.column (l.a * 16 + i)) (flag_at l.initial.r) 16 l.q l.r × (l.q ≤ 16)

abbrev pub decreases-loop-q : goal.decreases-loop-q
decreases-loop-q l = 16 - l.q
