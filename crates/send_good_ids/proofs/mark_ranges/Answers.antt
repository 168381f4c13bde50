use native.Mathlib.Omega.{arith}
use borrow.Author.Rules.{rules}
use Rattle.send_good_ids.specs.Inner.Marks.{passed_none, passed_more, passed_end}
use Rattle.send_good_ids.proofs.mark_ranges.Goals as goal

pub loop-i-init : goal.loop-i-init
loop-i-init c = passed_none c.entries_of-n.ensures c.told-until

pub start_at-start-requires : goal.start_at-start-requires
start_at-start-requires c = omega (arith, c.loop-i.invariant.all)

pub stop_at-stop-requires : goal.stop_at-stop-requires
stop_at-stop-requires c = omega (arith, c.loop-i.invariant.all)

pub loop-i-preserved : goal.loop-i-preserved
loop-i-preserved c =
    passed_more c.loop-i.invariant (search rules) c.start_at-start.ensures c.stop_at-stop.ensures c.mark_range-near.ensures

pub returns : goal.returns
returns c = passed_end c.loop-i.invariant (search rules)
