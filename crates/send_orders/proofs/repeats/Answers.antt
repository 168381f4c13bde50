use mathlib.Core.Path.{◌∙◌}
use borrow.Author.Tests.{eq-eqb, ne_eqb}
use Rattle.send_orders.specs.Inner.Alike.{are_alike, repeats_in}
use borrow.Author.Rules.{rules}
use Rattle.send_orders.proofs.repeats.Goals as goal

pub returns-then-n-eq0 : goal.returns-then-n-eq0
unfolding repeats_in
returns-then-n-eq0 c = rw (eq-eqb c.args.n 0 c.if-n-eq0.true)

pub overflow_add-place : goal.overflow_add-place
overflow_add-place c = search rules

pub action_at-requires : goal.action_at-requires
action_at-requires c = search rules

pub overflow_add-place-2 : goal.overflow_add-place-2
overflow_add-place-2 c = search rules

pub overflow_sub-place : goal.overflow_sub-place
overflow_sub-place c = search rules

pub action_at-requires-2 : goal.action_at-requires-2
action_at-requires-2 c = search rules

pub alike-requires : goal.alike-requires
alike-requires c = search rules

pub returns : goal.returns
unfolding repeats_in
returns c = rw (ne_eqb c.args.n 0 c.if-n-eq0.false) (c.alike.ensures ∙ (λ i. are_alike c.args.passed (c.action_at.ensures i) (c.action_at-2.ensures i)))
