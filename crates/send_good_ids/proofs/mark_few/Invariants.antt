use Prim.Native.Nat.{◌-◌}
use mathlib.Core.Bool.{false}
use Rattle.send_good_ids.specs.Inner.Marks.{Passed}
use Rattle.send_good_ids.proofs.mark_few.Given as goal

abbrev pub invariant-loop-i : goal.invariant-loop-i
invariant-loop-i l = Passed false l.initial.until l.value l.search.ids.iid.now l.search.ids.count l.n l.i l.until

abbrev pub decreases-loop-i : goal.decreases-loop-i
decreases-loop-i l = l.n - l.i
