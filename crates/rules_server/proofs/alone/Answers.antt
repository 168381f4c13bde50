use Rattle.rules_server.specs.Inner.Flag.{flagged_in, flagged_not}
use Rattle.rules_server.proofs.alone.Goals as goal

-- `rules_server::alone`: one place, or none. Assumes nothing.
pub returns-then-p-lt16 : goal.returns-then-p-lt16
returns-then-p-lt16 c = flagged_in _ c.if-p-lt16.true

pub returns-else-p-lt16 : goal.returns-else-p-lt16
returns-else-p-lt16 c = flagged_not _ c.if-p-lt16.false
