use Prim.Native.Nat.{◌≤◌}
use Rattle.state_sets.specs.Inner.Members.{members}
use Rattle.send_good_ids.specs.Inner.Marks.{GoodsTo, Swept}
use Rattle.send_good_ids.proofs.good_places.Given as goal

abbrev pub invariant-loop-l : goal.invariant-loop-l
invariant-loop-l l = GoodsTo l.until l.links.owner.now (members l.mine) l.initial.r l.l l.r × Swept l.until l.l l.past × (l.l ≤ l.links.ids.count)
