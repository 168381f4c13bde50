use mathlib.Core.Path.{refl, ◌∙◌}
use native.Mathlib.Omega.{arith}
use borrow.Author.Rules.{rules}
use Rattle.laws.specs.Inner.Columns.{half_end, half_more, half_none}
use Rattle.laws.specs.Inner.Below.{from_one}
use Rattle.abi_query.specs.Query.{new_in}
use Rattle.abi_query.proofs.new_in.Goals as goal

pub loop-a-init : goal.loop-a-init
loop-a-init c = (half_none _ 16 _ refl, omega arith)

pub loop-a-preserved : goal.loop-a-preserved
loop-a-preserved c = (half_more _ c.loop-a.invariant.0 (omega arith) (c.from.ensures ∙ from_one _), search rules)

pub returns : goal.returns
unfolding new_in
returns c = half_end c.loop-a.invariant.0 c.loop-a-test.false
