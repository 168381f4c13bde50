use Prim.Native.Nat.{◌≤◌, ◌<◌, ◌-◌, ◌+◌, ◌*◌}
use Rattle.laws.specs.Columns.{flag_at, is_set}
use Rattle.laws.specs.Inner.Columns.{Half}
use Rattle.state_sets.specs.Inner.Bits.{flags_of}
use Rattle.state_sets.specs.Inner.Members.{members}
use Rattle.event_asps.proofs.ases_of.Given as goal

abbrev pub invariant-loop-a : goal.invariant-loop-a
invariant-loop-a l = Half (λ i. is_set l.member (i * 16 + l.p)) (flag_at (flags_of 0)) 16 l.a (members l.r) × (l.a ≤ 16) × (l.p < 16)

abbrev pub decreases-loop-a : goal.decreases-loop-a
decreases-loop-a l = 16 - l.a
