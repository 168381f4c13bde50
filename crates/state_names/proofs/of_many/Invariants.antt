use Prim.Native.Nat.{◌≤◌, ◌-◌}
use mathlib.Core.Path.{◌≡◌}
use mathlib.Core.Bool.{false}
use Rattle.state_index.specs.Inner.Spots.{Spots}
use Rattle.state_sets.specs.Inner.Members.{members}
use Rattle.state_ranges.specs.Named.{entries}
use Rattle.state_names.specs.Inner.Run.{Sofar}
use Rattle.state_ranges.specs.Inner.Names.{as_refused}
use Rattle.state_names.proofs.of_many.Given as goal

abbrev pub invariant-loop-i : goal.invariant-loop-i
invariant-loop-i l = Sofar l.links.ids.iid.now l.links.owner.now l.links.ids.count (members l.mine) l.value (as_refused l.initial.r.refused) (members l.initial.r.set) l.i (as_refused l.r.refused) (members l.r.set) × (l.i ≤ l.n) × (l.n ≡ entries false l.value) × Spots l.table l.links.ids.iid.now l.links.ids.count

abbrev pub decreases-loop-i : goal.decreases-loop-i
decreases-loop-i l = l.n - l.i
