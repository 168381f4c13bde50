use Prim.Native.Nat.{◌≤◌, ◌-◌}
use mathlib.Core.Path.{◌≡◌}
use Rattle.state_sets.specs.Inner.Members.{members}
use Rattle.state_ranges.specs.Named.{is_owned_by, entries}
use Rattle.state_ranges.specs.Inner.Owners.{Looked}
use Rattle.state_names.specs.Inner.Entries.{Flags}
use Rattle.state_names.proofs.owners_of.Given as goal

abbrev pub invariant-loop-i : goal.invariant-loop-i
invariant-loop-i l = (members l.r ≡ Flags (is_owned_by l.links.ids.iid.now l.links.owner.now l.links.ids.count) l.pairs l.value (members l.initial.r) l.i) × Looked l.links.owner.now l.far (members l.r) × (l.i ≤ l.n) × (l.n ≡ entries l.pairs l.value)

abbrev pub decreases-loop-i : goal.decreases-loop-i
decreases-loop-i l = l.n - l.i
