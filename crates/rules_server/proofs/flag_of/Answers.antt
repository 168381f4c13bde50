use Rattle.laws.specs.Columns.{tabulate}
use Rattle.rules_server.specs.Change.{nobody}
use Rattle.rules_server.proofs.flag_of.Goals as goal

-- `rules_server::flag_of`: by the change. Assumes nothing.
pub returns-in-AspUp : goal.returns-in-AspUp
returns-in-AspUp c = rw c.in-AspUp.is c.alone.ensures

pub returns-in-AspDown : goal.returns-in-AspDown
returns-in-AspDown c = rw c.in-AspDown.is c.alone-in-AspDown.ensures

pub returns-in-Deactivate : goal.returns-in-Deactivate
returns-in-Deactivate c = rw c.in-Deactivate.is c.alone-in-Deactivate.ensures

pub returns-in-Activate : goal.returns-in-Activate
returns-in-Activate c = rw c.in-Activate.is c.alone-in-Activate.ensures

pub returns-in-Recover : goal.returns-in-Recover
unfolding nobody tabulate
returns-in-Recover c = rw c.in-Recover.is
