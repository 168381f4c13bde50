use mathlib.Core.Path.{refl}
use Rattle.laws.specs.Inner.Choice.{at_eq, at_ne}
use Rattle.send_orders.specs.Inner.Refusals.{some_reached}
use Rattle.send_orders.proofs.some_reached.Goals as goal

pub returns-then-r-eq0 : goal.returns-then-r-eq0
unfolding some_reached
returns-then-r-eq0 c = at_eq _ _ _ _ c.if-r-eq0.true refl

pub returns : goal.returns
unfolding some_reached
returns c = at_ne _ _ _ _ c.if-r-eq0.false refl
