use mathlib.Core.Path.{refl}
use Rattle.send_orders.specs.Inner.One.{one_written}
use Rattle.send_orders.proofs.m2ua_order_at.Goals as goal

pub returns : goal.returns
returns c = rw (c.written_of.ensures, c.sent_of.ensures) (one_written _ _ _ _ _ refl c.m2ua_orders_at-batch.ensures)
