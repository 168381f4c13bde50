use mathlib.Core.Path.{◌∙◌}
use Rattle.event_reach.specs.Inner.Rows.{id_known, id_unknown}
use Rattle.event_reach.proofs.owner_of.Goals as goal

pub returns-in-Some : goal.returns-in-Some
returns-in-Some c = c.owner_at.ensures ∙ id_known _ _ _ _ _ c.in-Some.ensures

pub returns-in-None : goal.returns-in-None
returns-in-None c = id_unknown _ _ _ _ c.in-None.ensures

pub owner_at-requires : goal.owner_at-requires
owner_at-requires c = c.in-Some.ensures.1
