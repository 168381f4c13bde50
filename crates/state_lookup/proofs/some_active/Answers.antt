use mathlib.Core.Path.{sym}
use borrow.Author.Rules.{rules}
use Rattle.laws.specs.Below.{any_below}
use Rattle.laws.specs.Inner.Below.{at_end, any_none, any_more}
use Rattle.state_lookup.proofs.some_active.Goals as goal

pub loop-q-init : goal.loop-q-init
loop-q-init c = (sym (any_none _), search rules, search rules)

pub loop-q-preserved : goal.loop-q-preserved
loop-q-preserved c = (rw any_more (rw c.loop-q.invariant.0), search rules, search rules)

pub returns : goal.returns
returns c = at_end (any_below _) c.loop-q.invariant.0 c.loop-q-test.false c.loop-q.invariant.1
