use Rattle.send_orders.proofs.good_if.Goals as goal

-- `send_orders::good_if`: what send_good_ids::put_good promises, of the sender's ASes; nothing else is said
pub ases_of-mine-requires : goal.ases_of-mine-requires
ases_of-mine-requires c = (c.requires.1 c.if-part.true).0

pub put_good-requires : goal.put_good-requires
put_good-requires c = let q = c.requires in (q.0, (q.1 c.if-part.true).1)

pub returns-then-part : goal.returns-then-part
returns-then-part c = (c.if-part.true, rw c.ases_of-mine.ensures at c.put_good.ensures)

pub returns : goal.returns
returns c = c.if-part.false
