use Rattle.event_traffic.proofs.acked.Goals as goal

pub returns-in-Some : goal.returns-in-Some
returns-in-Some c = rw c.in-Some.is (rw (c.to_asp-error.ensures, c.to_asp-reply.ensures) at c.change_two.ensures)

pub returns-in-None : goal.returns-in-None
returns-in-None c = rw c.in-None.is (rw c.to_asp-reply.ensures at c.change_one.ensures)
