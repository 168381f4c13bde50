use mathlib.Core.Path.{◌∙◌}
use Rattle.event_reach.specs.Inner.Rows.{only_row}
use Rattle.event_reach.proofs.owner_at.Goals as goal

pub returns : goal.returns
returns c = c.only.ensures ∙ only_row _ ∙ rw c.owner_at.ensures.0
