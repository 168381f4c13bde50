use Rattle.laws.specs.Inner.Choice.{choices}
use Rattle.send_good_ids.proofs.past_if.Goals as goal

pub returns-then-named : goal.returns-then-named
returns-then-named c = search choices depth 9

pub returns-else-named : goal.returns-else-named
returns-else-named c = search choices depth 9
