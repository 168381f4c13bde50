use Rattle.rules_servers.proofs.mark.Goals as goal

-- `rules_servers::mark`: by the change. Assumes nothing.
pub returns-in-AspUp : goal.returns-in-AspUp
returns-in-AspUp c = rw c.in-AspUp.is c.put_flag.ensures

pub returns-in-AspDown : goal.returns-in-AspDown
returns-in-AspDown c = rw c.in-AspDown.is c.put_flag-in-AspDown.ensures
