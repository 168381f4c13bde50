use Rattle.rules_action.specs.Inner.Words.{written_left, written_taken}
use Rattle.rules_action.proofs.put_if.Goals as goal

-- `rules_action::put_if`: by the flag. Assumes nothing.
pub returns-then-yes : goal.returns-then-yes
returns-then-yes c = written_taken _ c.if-yes.true c.put.ensures

pub returns : goal.returns
returns c = written_left _ c.if-yes.false
