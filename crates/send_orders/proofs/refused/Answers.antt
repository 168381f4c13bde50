use borrow.Author.Tests.{eq-eqb, ne_eqb}
use Rattle.send_orders.specs.Inner.Handled.{code_of}
use Rattle.send_orders.proofs.refused.Goals as goal

pub returns-then-refusal-eq-SHORT_LIST : goal.returns-then-refusal-eq-SHORT_LIST
unfolding code_of
returns-then-refusal-eq-SHORT_LIST c = rw (eq-eqb c.args.refusal 101 c.if-refusal-eq-SHORT_LIST.true)

pub returns : goal.returns
unfolding code_of
returns c = rw (ne_eqb c.args.refusal 101 c.if-refusal-eq-SHORT_LIST.false)
