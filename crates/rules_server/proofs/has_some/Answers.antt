use mathlib.Core.Path.{sym}
use native.Mathlib.Omega.{arith}
use borrow.Author.Rules.{rules}
use Rattle.laws.specs.Below.{any_below}
use Rattle.laws.specs.Inner.Below.{any_more, any_none, at_end}
use Rattle.rules_server.specs.Record.{some}
use Rattle.rules_server.proofs.has_some.Goals as goal

pub loop-q-init : goal.loop-q-init
loop-q-init c = (sym (any_none _), omega arith)

pub loop-q-preserved : goal.loop-q-preserved
loop-q-preserved c = (rw any_more (rw c.loop-q.invariant.0), search rules)

pub returns : goal.returns
unfolding some
returns c = at_end (any_below _) c.loop-q.invariant.0 c.loop-q-test.false c.loop-q.invariant.1
