use Prim.Native.Nat.{◌≤◌, ◌-◌, ◌+◌, ◌*◌}
use mathlib.Core.Bool.{◌&&◌}
use Rattle.laws.specs.Columns.{flag_at, is_set}
use Rattle.laws.specs.Inner.Columns.{Half}
use Rattle.rules_server.proofs.members_up.Given as goal

abbrev pub invariant-loop-q : goal.invariant-loop-q
invariant-loop-q l = Half (λ i. is_set l.member (l.a * 16 + i) && is_set l.up i) (flag_at l.initial.r) 16 l.q l.r × (l.q ≤ 16)

abbrev pub decreases-loop-q : goal.decreases-loop-q
decreases-loop-q l = 16 - l.q
