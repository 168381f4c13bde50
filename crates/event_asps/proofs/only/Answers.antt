use mathlib.Core.Path.{refl}
use native.Mathlib.Omega.{arith}
use borrow.Author.Rules.{rules}
use Rattle.laws.specs.Inner.Columns.{half_end, half_more, half_none}
use Rattle.event_asps.proofs.only.Goals as goal

pub loop-c-init : goal.loop-c-init
loop-c-init c = (half_none _ 16 _ refl, omega arith)

pub loop-c-preserved : goal.loop-c-preserved
loop-c-preserved c = (half_more _ c.loop-c.invariant.0 c.loop-c-test.true refl, search rules)

pub returns : goal.returns
returns c = half_end c.loop-c.invariant.0 c.loop-c-test.false
