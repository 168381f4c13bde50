use Rattle.laws.specs.Columns.{tabulate}
use Rattle.rules_server.specs.Change.{nobody}
use Rattle.rules_server.specs.Inner.Flag.{overtaken_one}
use Rattle.rules_server.proofs.overtaken_in.Goals as goal

-- `rules_server::overtaken_in`: by the change. Assumes nothing.
pub returns-in-Activate : goal.returns-in-Activate
returns-in-Activate c = let k = c.in-Activate.is in rw k (overtaken_one _ (rw k at c.args.k.flagged) _ _ c.overtake.ensures)

pub returns-in-AspUp : goal.returns-in-AspUp
unfolding nobody tabulate
returns-in-AspUp c = rw c.in-AspUp.is

pub returns-in-AspDown : goal.returns-in-AspDown
unfolding nobody tabulate
returns-in-AspDown c = rw c.in-AspDown.is

pub returns-in-Deactivate : goal.returns-in-Deactivate
unfolding nobody tabulate
returns-in-Deactivate c = rw c.in-Deactivate.is

pub returns-in-Recover : goal.returns-in-Recover
unfolding nobody tabulate
returns-in-Recover c = rw c.in-Recover.is
