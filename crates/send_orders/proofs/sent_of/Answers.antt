use borrow.Author.Tests.{eq-eqb, ne_eqb}
use Rattle.send_orders.specs.Inner.Refusals.{sent_of}
use Rattle.send_orders.proofs.sent_of.Goals as goal

pub returns-then-b-ne0 : goal.returns-then-b-ne0
unfolding sent_of
returns-then-b-ne0 c = rw (ne_eqb c.args.b.code 0 c.if-b-ne0.true)

pub returns-then-b-eq0 : goal.returns-then-b-eq0
unfolding sent_of
returns-then-b-eq0 c = rw (eq-eqb c.args.b.code 0 c.if-b-ne0.false, eq-eqb c.args.b.length 0 c.if-b-eq0.true)

pub returns : goal.returns
unfolding sent_of
returns c = rw (eq-eqb c.args.b.code 0 c.if-b-ne0.false, ne_eqb c.args.b.length 0 c.if-b-eq0.false)
