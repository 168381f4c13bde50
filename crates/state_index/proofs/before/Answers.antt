use Rattle.laws.specs.Inner.Choice.{choices}
use Rattle.state_index.proofs.before.Goals as goal

pub returns-then-t-eq0 : goal.returns-then-t-eq0
returns-then-t-eq0 c = search choices depth 9

pub returns-else-t-eq0 : goal.returns-else-t-eq0
returns-else-t-eq0 c = search choices depth 9
