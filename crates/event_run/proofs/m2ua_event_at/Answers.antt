use mathlib.Core.Path.{refl}
use Rattle.event_run.specs.Inner.Perform.{runs_meets}
use Rattle.event_run.proofs.m2ua_event_at.Goals as goal

-- the hold is lent whole
pub returns : goal.returns
returns c = runs_meets c.run.ensures refl
