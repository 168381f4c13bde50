use mathlib.Core.Path.{◌∙◌, sym}
use Rattle.event_units.specs.Inner.Going.{none_going}
use Rattle.event_units.proofs.goes.Goals as goal

-- `event_units::goes`: none where none are held. Assumes nothing.
pub returns-then-none_counted : goal.returns-then-none_counted
returns-then-none_counted c = none_going _ _ _ (sym c.none_counted.ensures ∙ c.if-none_counted.true)

pub returns : goal.returns
returns c = c.let_go.ensures
