use Prim.Native.Nat.{◌-◌}
use mathlib.Core.Bool.{false}
use Rattle.state_index.specs.Inner.Spots.{Spots}
use Rattle.send_good_ids.specs.Inner.Marks.{Passed}
use Rattle.send_good_ids.proofs.mark_many.Given as goal

abbrev pub invariant-loop-i : goal.invariant-loop-i
invariant-loop-i l = Passed false l.initial.until l.value l.ids.iid.now l.ids.count l.n l.i l.until × Spots l.table l.ids.iid.now l.ids.count

abbrev pub decreases-loop-i : goal.decreases-loop-i
decreases-loop-i l = l.n - l.i
