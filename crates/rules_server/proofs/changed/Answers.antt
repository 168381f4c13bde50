use mathlib.Core.Path.{◌∙◌}
use Rattle.rules_server.specs.Inner.Flag.{less_one, more_one, turned_one}
use Rattle.rules_server.proofs.changed.Goals as goal

-- `rules_server::changed`: by the change. Assumes nothing.
pub returns-in-AspUp : goal.returns-in-AspUp
returns-in-AspUp c = let k = c.in-AspUp.is in let e = rw k at c.args.k.flagged in rw k (c.settled.ensures ∙ rw (more_one _ e _ c.plus.ensures, less_one _ e _ c.minus.ensures))

pub returns-in-AspDown : goal.returns-in-AspDown
returns-in-AspDown c = let k = c.in-AspDown.is in let e = rw k at c.args.k.flagged in rw k (c.settled-in-AspDown.ensures ∙ rw (less_one _ e _ c.minus-in-AspDown.ensures, less_one _ e _ c.minus-in-AspDown-2.ensures))

pub returns-in-Deactivate : goal.returns-in-Deactivate
returns-in-Deactivate c = let k = c.in-Deactivate.is in let e = rw k at c.args.k.flagged in rw k (c.settled-in-Deactivate.ensures ∙ rw (less_one _ e _ c.minus-in-Deactivate.ensures))

pub returns-in-Activate : goal.returns-in-Activate
returns-in-Activate c = let k = c.in-Activate.is in let e = rw k at c.args.k.flagged in rw k (c.settled-in-Activate.ensures ∙ rw (turned_one _ e _ _ c.turn_on.ensures))

pub returns-in-Recover : goal.returns-in-Recover
returns-in-Recover c = rw c.in-Recover.is
