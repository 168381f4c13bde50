use Prim.Native.Nat.{◌≤◌}
use mathlib.Core.Path.{◌≡◌}
use mathlib.Core.Bool.{false}
use Rattle.state_sets.specs.Inner.Members.{members}
use Rattle.state_ranges.specs.Named.{entries}
use Rattle.state_names.specs.Inner.Run.{GoesOn}
use Rattle.state_names.proofs.in_order.Given as goal

abbrev pub invariant-loop-i : goal.invariant-loop-i
invariant-loop-i l = GoesOn l.links.ids.iid.now l.links.owner.now l.links.ids.count (members l.mine) l.value l.fn.from.i (members l.fn.from.set) l.i (members l.r) × (l.n ≡ entries false l.value) × (l.i ≤ l.n)
