use Prim.Native.Nat.{◌-◌}
use lib.ListN.{length}
use Rattle.codec_wire.specs.Walk.{walk}
use Rattle.send_good_ids.specs.Inner.Marks.{Rest}
use Rattle.send_good_ids.proofs.marks_of.Given as goal

abbrev pub invariant-loop-tag : goal.invariant-loop-tag
invariant-loop-tag l = Rest l.until l.search.ids.iid.now l.search.ids.count (walk l.s l.at).pars (walk l.s 8).pars

abbrev pub decreases-loop-tag : goal.decreases-loop-tag
decreases-loop-tag l = length l.s - l.at
