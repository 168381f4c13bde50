use Prim.Native.Nat.{◌≤◌, ◌-◌}
use Rattle.state_sound.specs.Inner.Sound.{Seen}
use Rattle.state_sound.proofs.seen_of.Given as goal

abbrev pub invariant-loop-l : goal.invariant-loop-l
invariant-loop-l l = Seen l.id l.links.iid.now l.links.owner.now l.l l.seen × (l.l ≤ l.links.count)

abbrev pub decreases-loop-l : goal.decreases-loop-l
decreases-loop-l l = l.links.count - l.l
