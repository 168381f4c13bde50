use Prim.Native.Nat.{◌-◌}
use mathlib.Core.Bool.{true}
use Rattle.send_good_ids.specs.Inner.Marks.{Passed}
use Rattle.send_good_ids.proofs.mark_ranges.Given as goal

abbrev pub invariant-loop-i : goal.invariant-loop-i
invariant-loop-i l = Passed true l.initial.until l.value l.search.ids.iid.now l.search.ids.count l.n l.i l.until

abbrev pub decreases-loop-i : goal.decreases-loop-i
decreases-loop-i l = l.n - l.i
