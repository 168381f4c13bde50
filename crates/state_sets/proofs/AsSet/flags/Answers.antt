use mathlib.Core.Path.{refl, ◌∙◌}
use native.Mathlib.Omega.{arith}
use borrow.Author.Rules.{rules}
use Rattle.laws.specs.Inner.Columns.{half_end, half_more, half_none}
use Rattle.state_sets.specs.Inner.Bits.{flags_of, flag_is}
use Rattle.state_sets.proofs.AsSet.flags.Goals as goal

pub loop-a-init : goal.loop-a-init
loop-a-init c = (half_none _ 16 _ refl, omega arith)

pub loop-a-preserved : goal.loop-a-preserved
loop-a-preserved c = (half_more _ c.loop-a.invariant.0 (omega (arith, c.loop-a-test.true)) (c.has.ensures ∙ flag_is _ _ (omega (arith, c.loop-a-test.true))), search rules)

pub returns : goal.returns
unfolding flags_of
returns c = half_end c.loop-a.invariant.0 c.loop-a-test.false
