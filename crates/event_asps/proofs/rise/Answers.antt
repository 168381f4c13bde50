use Rattle.event_asps.proofs.rise.Goals as goal

pub returns-then-was : goal.returns-then-was
returns-then-was c = rw c.if-was.true (rw (c.to_asp-fault.ensures, c.to_asp-ack.ensures) at c.change_two.ensures)

pub returns : goal.returns
returns c = rw c.if-was.false (rw c.to_asp-ack.ensures at c.change_one.ensures)
