use Rattle.laws.specs.Below.{any_below}
use Rattle.laws.specs.Inner.Below.{any_more, any_none, at_end}
use mathlib.Core.Path.{sym}
use native.Mathlib.Omega.{arith}
use borrow.Author.Rules.{rules}
use Rattle.event_traffic.proofs.some_other.Goals as goal

pub loop-a-init : goal.loop-a-init
loop-a-init c = (sym (any_none _), omega arith)

pub has-requires : goal.has-requires
has-requires c = omega (arith, c.loop-a-test.true)

pub loop-a-preserved : goal.loop-a-preserved
loop-a-preserved c = (rw any_more (rw (c.from.ensures, c.has.ensures, c.loop-a.invariant.0)), search rules)

pub returns : goal.returns
returns c = at_end (any_below _) c.loop-a.invariant.0 c.loop-a-test.false c.loop-a.invariant.1
