use Rattle.event_asked.specs.Inner.Kind.{happened_number}
use Rattle.abi_node.proofs.Node.happen.Goals as goal

pub returns : goal.returns
returns c = rw (happened_number c.args.kind c.args.i c.args.msg.now) at (rw c.from.ensures at c.m2ua_event_at-done.ensures)
