use mathlib.Core.Path.{refl}
use native.Mathlib.Omega.{arith}
use borrow.Author.Rules.{rules}
use Rattle.laws.specs.Inner.Columns.{half_end, half_more, half_none}
use Rattle.rules_server.specs.Record.{members_up}
use Rattle.rules_server.proofs.members_up.Goals as goal

pub loop-q-init : goal.loop-q-init
loop-q-init c = (half_none _ 16 _ refl, omega arith)

pub loop-q-preserved : goal.loop-q-preserved
loop-q-preserved c = (half_more _ c.loop-q.invariant.0 c.loop-q-test.true refl, search rules)

pub returns : goal.returns
unfolding members_up
returns c = half_end c.loop-q.invariant.0 c.loop-q-test.false
