use Rattle.rules_action.specs.Inner.Words.{written_none, written_one, written_append}
use Rattle.event_run.proofs.say.Goals as goal

pub returns-in-Nothing : goal.returns-in-Nothing
returns-in-Nothing c = rw c.in-Nothing.is (written_none _ 0)

pub returns-in-One : goal.returns-in-One
returns-in-One c = rw c.in-One.is (written_one _ c.put.ensures)

pub returns-in-Two : goal.returns-in-Two
returns-in-Two c = rw c.in-Two.is (written_append (written_one _ c.put-in-Two.ensures) (written_one _ c.put-in-Two-2.ensures))
