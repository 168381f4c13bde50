use Prim.Native.Nat.{◌≤◌, ◌-◌}
use Rattle.state_sets.specs.Inner.Members.{members}
use Rattle.state_ranges.specs.Inner.Owners.{Walking}
use Rattle.state_ranges.proofs.owners_between.Given as goal

abbrev pub invariant-loop-l : goal.invariant-loop-l
invariant-loop-l l = Walking l.links.owner.now l.far (members l.initial.r) (members l.r) l.first l.l l.past × (l.first ≤ l.l) × (l.past ≤ l.links.ids.count)

abbrev pub decreases-loop-l : goal.decreases-loop-l
decreases-loop-l l = l.past - l.l
