use mathlib.Core.Path.{sym, ◌∙◌}
use native.Mathlib.Omega.{arith}
use Rattle.rules_action.specs.Inner.Words.{written_none}
use Rattle.rules_server.specs.Inner.Notify.{announced_down, announced_new, announced_same}
use Rattle.rules_server.specs.Inner.Record.{state_small}
use Rattle.rules_server.proofs.announce.Goals as goal

-- `rules_server::announce`: by the states. Assumes nothing.
pub returns-then-y-eq0 : goal.returns-then-y-eq0
returns-then-y-eq0 c = rw (announced_down _ _ _ (sym c.state_in-y.ensures ∙ c.if-y-eq0.true)) (written_none _ _)

pub returns-then-x-y : goal.returns-then-x-y
returns-then-x-y c = let e = c.state_in-y.ensures in rw (announced_same _ _ _ (λ z. c.if-y-eq0.false (e ∙ z)) (sym c.state_in-x.ensures ∙ c.if-x-y.true ∙ e)) (written_none _ _)

pub overflow_add-y : goal.overflow_add-y
overflow_add-y c = omega (arith, c.state_in-y.ensures, state_small c.args.t)

pub returns : goal.returns
returns c = let e = c.state_in-y.ensures in
    let f = c.state_in-x.ensures in
    rw (announced_new _ _ _ (λ z. c.if-y-eq0.false (e ∙ z)) (λ z. c.if-x-y.false (f ∙ z ∙ sym e)), ← e) c.to_all.ensures
