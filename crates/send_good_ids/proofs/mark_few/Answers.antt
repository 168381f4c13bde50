use native.Mathlib.Omega.{arith}
use borrow.Author.Rules.{rules}
use Rattle.send_good_ids.specs.Inner.Marks.{passed_none, passed_id, passed_end}
use Rattle.send_good_ids.proofs.mark_few.Goals as goal

pub loop-i-init : goal.loop-i-init
loop-i-init c = passed_none c.entries_of-n.ensures c.told-until

pub start_at-x-requires : goal.start_at-x-requires
start_at-x-requires c = omega (arith, c.loop-i.invariant.all)

pub loop-i-preserved : goal.loop-i-preserved
loop-i-preserved c = passed_id c.loop-i.invariant (search rules) c.start_at-x.ensures c.mark_id-near.ensures

pub returns : goal.returns
returns c = passed_end c.loop-i.invariant (search rules)
