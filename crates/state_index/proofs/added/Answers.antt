use Rattle.laws.specs.Inner.Choice.{choices}
use Rattle.state_index.proofs.added.Goals as goal

pub returns-then-old-eq0 : goal.returns-then-old-eq0
returns-then-old-eq0 c = search choices depth 9

pub returns-else-old-eq0 : goal.returns-else-old-eq0
returns-else-old-eq0 c = search choices depth 9
