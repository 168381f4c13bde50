use Prim.Native.Nat.{◌≤◌, ◌-◌}
use Rattle.laws.specs.Columns.{flag_at}
use Rattle.laws.specs.Inner.Columns.{Half}
use Rattle.state_sets.specs.Inner.Bits.{bit_at}
use Rattle.state_sets.proofs.AsSet.flags.Given as goal

abbrev pub invariant-loop-a : goal.invariant-loop-a
invariant-loop-a l = Half (bit_at l.self.bits) (flag_at l.initial.r) 16 l.a l.r × (l.a ≤ 16)

abbrev pub decreases-loop-a : goal.decreases-loop-a
decreases-loop-a l = 16 - l.a
