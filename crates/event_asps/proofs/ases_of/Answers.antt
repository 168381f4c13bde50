use mathlib.Core.Path.{refl}
use native.Mathlib.Omega.{arith}
use borrow.Author.Rules.{rules}
use Rattle.laws.specs.Inner.Columns.{half_end}
use Rattle.rules_servers.specs.Changed.{column_of}
use Rattle.state_sets.specs.Inner.Bits.{half_empty, half_if}
use Rattle.event_asps.proofs.ases_of.Goals as goal

pub loop-a-init : goal.loop-a-init
loop-a-init c = (half_empty _ c.empty-r.ensures, omega arith, c.requires)

pub loop-a-preserved : goal.loop-a-preserved
loop-a-preserved c = let i = c.loop-a.invariant in (half_if _ _ _ i.0 (omega arith) refl c.with_if-r.ensures, search rules, i.2)

pub returns : goal.returns
unfolding column_of
returns c = half_end c.loop-a.invariant.0 c.loop-a-test.false
