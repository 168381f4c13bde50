use Rattle.laws.specs.Inner.Choice.{choices}
use Rattle.event_reach.specs.Inner.Rows.{named_row}
use borrow.Author.Tests.{eq-eqb}
use Rattle.event_reach.proofs.named_row.Goals as goal

pub returns-then-ids-eq1 : goal.returns-then-ids-eq1
unfolding named_row
returns-then-ids-eq1 c = rw (eq-eqb _ 1 c.if-ids-eq1.true) (rw c.ases_of.ensures at c.owners_good.ensures)

pub returns : goal.returns
unfolding named_row
returns c = search choices depth 9
