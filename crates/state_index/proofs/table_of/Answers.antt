use borrow.Author.Rules.{rules}
use Rattle.state_index.specs.Inner.Spots.{spots_none, spots_more, spots_end}
use Rattle.state_index.proofs.table_of.Goals as goal

pub loop-l-init : goal.loop-l-init
loop-l-init c = (spots_none _, search rules, search rules)

pub bounds-table-h : goal.bounds-table-h
bounds-table-h c = c.slot_of-h.ensures.1

pub bounds-table-h-in-loop-l : goal.bounds-table-h-in-loop-l
bounds-table-h-in-loop-l c = c.slot_of-h.ensures.1

pub loop-l-preserved : goal.loop-l-preserved
loop-l-preserved c = let i = c.loop-l.invariant in (spots_more i.0 _ _ c.slot_of-h.ensures.0 c.slot_of-h.ensures.1 c.added-t.ensures, search rules, i.2)

pub returns : goal.returns
returns c = let i = c.loop-l.invariant in spots_end i.0 c.loop-l-test.false i.1
