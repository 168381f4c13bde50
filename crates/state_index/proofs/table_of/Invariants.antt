use Prim.Native.Nat.{◌-◌, ◌≤◌}
use Rattle.state_index.specs.Inner.Spots.{Spots}
use Rattle.state_index.proofs.table_of.Given as goal

abbrev pub invariant-loop-l : goal.invariant-loop-l
invariant-loop-l l = Spots l.table l.iid l.l × (l.l ≤ l.links) × (l.links ≤ 128)

abbrev pub decreases-loop-l : goal.decreases-loop-l
decreases-loop-l l = l.links - l.l
