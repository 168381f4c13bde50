use Prim.Native.Nat.{◌≤◌, ◌-◌}
use mathlib.Core.Path.{◌≡◌}
use Rattle.laws.specs.Below.{count_below}
use Rattle.send_message.specs.Inner.Form.{owns}
use Rattle.send_message.proofs.count_owned.Given as goal

abbrev pub invariant-loop-l : goal.invariant-loop-l
invariant-loop-l l = (l.n ≡ count_below (owns l.owners.owner.now l.a) l.l) × (l.n ≤ l.l) × (l.l ≤ l.owners.links) × (l.owners.links ≤ 128)

abbrev pub decreases-loop-l : goal.decreases-loop-l
decreases-loop-l l = l.owners.links - l.l
