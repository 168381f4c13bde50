use borrow.Author.Tests.{ne_eqb}
use Rattle.rules_server.specs.Inner.Flag.{activated_by}
use Rattle.rules_server.proofs.turn_on.Goals as goal

-- `rules_server::turn_on`: by the mode. Assumes nothing.
pub returns-then-mode-eq1 : goal.returns-then-mode-eq1
unfolding activated_by
returns-then-mode-eq1 c = rw c.if-mode-eq1.true

pub returns : goal.returns
unfolding activated_by
returns c = rw (ne_eqb _ _ c.if-mode-eq1.false) c.plus.ensures
