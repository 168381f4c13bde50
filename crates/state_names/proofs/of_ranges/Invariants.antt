use Prim.Native.Nat.{◌≤◌, ◌-◌}
use mathlib.Core.Path.{◌≡◌}
use mathlib.Core.Bool.{true}
use Rattle.state_sets.specs.Inner.Members.{members}
use Rattle.state_ranges.specs.Named.{is_owned_by, first_of, entries, refused_entry}
use Rattle.state_ranges.specs.Inner.Refused.{refused_by}
use Rattle.state_ranges.specs.Inner.Owners.{Looked}
use Rattle.state_ranges.specs.Inner.Names.{earlier, as_refused}
use Rattle.state_names.specs.Inner.Entries.{Flags}
use Rattle.state_names.proofs.of_ranges.Given as goal

abbrev pub invariant-loop-i : goal.invariant-loop-i
invariant-loop-i l = (as_refused l.r.refused ≡ earlier (as_refused l.initial.r.refused) (first_of (refused_entry (refused_by l.links.ids.iid.now l.links.owner.now l.links.ids.count (members l.mine)) true l.value) l.i)) × (members l.r.set ≡ Flags (is_owned_by l.links.ids.iid.now l.links.owner.now l.links.ids.count) true l.value (members l.initial.r.set) l.i) × Looked l.links.owner.now l.far (members l.r.set) × (l.i ≤ l.n) × (l.n ≡ entries true l.value)

abbrev pub decreases-loop-i : goal.decreases-loop-i
decreases-loop-i l = l.n - l.i
