use native.Mathlib.Omega.{arith}
use borrow.Author.Rules.{rules}
use mathlib.Core.Path.{sym}
use Rattle.state_lookup.specs.Inner.Index.{index_small}
use Rattle.send_good_ids.specs.Inner.Marks.{passed_none, passed_id, passed_end, past_most, found_adds}
use Rattle.send_good_ids.proofs.mark_many.Goals as goal

pub table_of-table-requires : goal.table_of-table-requires
table_of-table-requires c = c.args.ids.few

pub loop-i-init : goal.loop-i-init
loop-i-init c = (passed_none c.entries_of-n.ensures c.told-until, c.table_of-table.ensures)

pub start_at-x-requires : goal.start_at-x-requires
start_at-x-requires c = omega (arith, c.loop-i.invariant.0.all)

pub find-f-requires : goal.find-f-requires
find-f-requires c = c.loop-i.invariant.1

pub past_if-requires : goal.past_if-requires
past_if-requires c = c.find-f.ensures.1

pub mark-requires : goal.mark-requires
mark-requires c = let b = c.find-f.ensures.1 in (b, past_most _ _ c.find-f.result.known c.past_if.ensures b)

pub loop-i-preserved : goal.loop-i-preserved
loop-i-preserved c =
    let w = c.loop-i.invariant in
    (passed_id w.0 (search rules) c.start_at-x.ensures (found_adds _ _ _ c.args.ids.order _ _ c.find-f.ensures.0 c.past_if.ensures c.mark.ensures), w.1)

pub returns : goal.returns
returns c = passed_end c.loop-i.invariant.0 (search rules)
