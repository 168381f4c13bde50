use borrow.Author.Rules.{rules}
use Rattle.state_plan.specs.Inner.Laws.{layout}
use Rattle.state_plan.specs.Inner.Layout.{places_of}
use Rattle.state_plan.proofs.places_of.Goals as goal

-- `state_plan::places_of`: the numbers read. Assumes nothing.
pub count_of-asps-requires : goal.count_of-asps-requires
count_of-asps-requires c = let l = layout _ c.requires in search rules

pub count_of-ases-requires : goal.count_of-ases-requires
count_of-ases-requires c = let l = layout _ c.requires in search rules

pub count_of-links-requires : goal.count_of-links-requires
count_of-links-requires c = let l = layout _ c.requires in search rules

pub offset_of-x-requires : goal.offset_of-x-requires
offset_of-x-requires c = let l = layout _ c.requires in search rules

pub offset_of-y-requires : goal.offset_of-y-requires
offset_of-y-requires c = let l = layout _ c.requires in search rules

pub offset_of-z-requires : goal.offset_of-z-requires
offset_of-z-requires c = let l = layout _ c.requires in search rules

pub returns : goal.returns
unfolding places_of
returns c = rw (c.offset_of-z.ensures.0, c.offset_of-y.ensures.0, c.offset_of-x.ensures.0, c.count_of-links.ensures.0, c.count_of-ases.ensures.0, c.count_of-asps.ensures.0)
