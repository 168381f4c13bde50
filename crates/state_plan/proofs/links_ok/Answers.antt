use mathlib.Core.Path.{sym, ◌∙◌}
use native.Mathlib.Omega.{arith}
use borrow.Author.Rules.{rules}
use Rattle.laws.specs.Below.{all_below}
use Rattle.laws.specs.Inner.Below.{all_none, all_more, at_end}
use Rattle.state_plan.specs.Inner.Tables.{floor_none, floor_more, kinds_both, and_same}
use Rattle.state_plan.proofs.links_ok.Goals as goal

pub loop-l-init : goal.loop-l-init
loop-l-init c = (sym (all_none _), sym (floor_none _), sym (all_none _), search rules, search rules, search rules)

pub overflow_mul-l : goal.overflow_mul-l
overflow_mul-l c = omega (arith, c.loop-l.invariant.4, c.loop-l-test.true)

pub overflow_add-at : goal.overflow_add-at
overflow_add-at c = omega (arith, c.loop-l.invariant.5, c.loop-l-test.true)

pub get32-requires : goal.get32-requires
get32-requires c = omega (arith, c.loop-l.invariant.5, c.loop-l-test.true)

pub overflow_add-at-in-loop-l : goal.overflow_add-at-in-loop-l
overflow_add-at-in-loop-l c = omega (arith, c.loop-l.invariant.5, c.loop-l-test.true)

pub overflow_mul-l-in-loop-l : goal.overflow_mul-l-in-loop-l
overflow_mul-l-in-loop-l c = omega (arith, c.loop-l.invariant.4, c.loop-l-test.true)

pub overflow_add-at-in-loop-l-2 : goal.overflow_add-at-in-loop-l-2
overflow_add-at-in-loop-l-2 c = omega (arith, c.loop-l.invariant.5, c.loop-l-test.true)

pub get32-x-requires : goal.get32-x-requires
get32-x-requires c = omega (arith, c.loop-l.invariant.5, c.loop-l-test.true)

pub overflow_add-least : goal.overflow_add-least
overflow_add-least c = omega (arith, c.from-id.ensures, c.get32.type_inv)

pub loop-l-preserved : goal.loop-l-preserved
loop-l-preserved c =
    let at = c.loop-l in
    let i = at.invariant in
    (rw all_more (rw (i.0, i.1, c.get32-x.ensures, c.from-id.ensures, c.get32.ensures)), rw (floor_more, c.from-id.ensures, c.get32.ensures), rw all_more (kinds_both at.bits c.get32-x.result ∙ rw (i.2, c.get32-x.ensures)), search rules, i.4, i.5)

pub returns : goal.returns
returns c = let i = c.loop-l.invariant in and_same (at_end (all_below _) i.0 c.loop-l-test.false i.3) (at_end (all_below _) i.2 c.loop-l-test.false i.3)
