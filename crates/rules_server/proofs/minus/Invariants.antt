use Prim.Native.Nat.{◌≤◌, ◌-◌}
use mathlib.Core.Bool.{◌&&◌, not}
use Rattle.laws.specs.Columns.{flag_at}
use Rattle.laws.specs.Inner.Columns.{Half}
use Rattle.rules_server.proofs.minus.Given as goal

abbrev pub invariant-loop-q : goal.invariant-loop-q
invariant-loop-q l = Half (λ i. flag_at l.x i && not (flag_at l.y i)) (flag_at l.initial.r) 16 l.q l.r × (l.q ≤ 16)

abbrev pub decreases-loop-q : goal.decreases-loop-q
decreases-loop-q l = 16 - l.q
