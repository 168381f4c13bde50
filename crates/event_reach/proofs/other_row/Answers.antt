use Rattle.laws.specs.Inner.Choice.{choices}
use Rattle.event_reach.specs.Inner.Rows.{other_row}
use Rattle.event_reach.proofs.other_row.Goals as goal

pub returns-then-error : goal.returns-then-error
unfolding other_row
returns-then-error c = search choices depth 9

pub returns-then-r-eq6 : goal.returns-then-r-eq6
unfolding other_row
returns-then-r-eq6 c = search choices depth 9

pub returns-then-r-eq0 : goal.returns-then-r-eq0
unfolding other_row
returns-then-r-eq0 c = search choices depth 9

pub returns : goal.returns
unfolding other_row
returns c = search choices depth 9
