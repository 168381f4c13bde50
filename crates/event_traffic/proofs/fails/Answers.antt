use Rattle.event_traffic.proofs.fails.Goals as goal

pub returns-in-Some : goal.returns-in-Some
returns-in-Some c = rw c.in-Some.is c.error_two.ensures

pub returns-in-None : goal.returns-in-None
returns-in-None c = rw c.in-None.is c.error.ensures
