use borrow.Author.Tests.{ne_eqb}
use Rattle.laws.specs.Columns.{tabulate}
use Rattle.rules_server.specs.Change.{nobody}
use Rattle.rules_server.specs.Inner.Flag.{overtaken_by}
use Rattle.rules_server.proofs.overtake.Goals as goal

-- `rules_server::overtake`: by the mode. Assumes nothing.
pub returns-then-mode-eq1 : goal.returns-then-mode-eq1
unfolding overtaken_by
returns-then-mode-eq1 c = rw c.if-mode-eq1.true c.minus.ensures

pub returns : goal.returns
unfolding overtaken_by nobody tabulate
returns c = rw (ne_eqb _ _ c.if-mode-eq1.false)
