use Rattle.send_unit.specs.Inner.Made.{shown_of}
use Rattle.send_unit.proofs.shown.Goals as goal

pub returns-in-Some : goal.returns-in-Some
unfolding shown_of
returns-in-Some c = rw c.in-Some.is c.body.ensures

pub returns-in-None : goal.returns-in-None
unfolding shown_of
returns-in-None c = rw c.in-None.is c.body-in-None.ensures
