use mathlib.Core.Path.{refl, sym, ◌∙◌}
use native.Mathlib.Omega.{arith}
use Rattle.laws.specs.Inner.Choice.{at_eq, at_ne}
use Rattle.send_message.specs.Inner.Form.{listed_size}
use Rattle.send_message.proofs.listed_size.Goals as goal

pub returns-in_default : goal.returns-in_default
unfolding listed_size
returns-in_default c = rw c.in_default.is (refl, omega arith)

pub returns-then-n-eq0 : goal.returns-then-n-eq0
unfolding listed_size
returns-then-n-eq0 c = rw c.in-Some.is (at_eq _ _ _ _ (sym c.count_owned-n.ensures.0 ∙ c.if-n-eq0.true) refl, omega arith)

pub returns : goal.returns
unfolding listed_size
returns c = rw c.in-Some.is (at_ne _ _ _ _ (λ z. c.if-n-eq0.false (c.count_owned-n.ensures.0 ∙ z)) (omega (arith, c.count_owned-n.ensures.0)), omega arith)
