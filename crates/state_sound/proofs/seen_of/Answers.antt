use mathlib.Core.Path.{◌≡◌}
use native.Mathlib.Omega.{arith}
use borrow.Author.Rules.{rules}
use Rattle.state_tables.specs.Inner.Column.{under_at}
use Rattle.state_sound.proofs.Units.{seen_none, seen_more}
use Rattle.state_sound.proofs.seen_of.Goals as goal

pub loop-l-init : goal.loop-l-init
loop-l-init c = (seen_none _ _ _, search rules)

pub mark-requires : goal.mark-requires
mark-requires c = rw c.from.ensures (under_at _ 16 _ c.args.links.owned _ c.loop-l-test.true)

pub loop-l-preserved : goal.loop-l-preserved
loop-l-preserved c = let i = c.loop-l.invariant in (seen_more _ _ _ _ i.0 (rw c.from.ensures at c.mark.ensures), search rules)

pub returns : goal.returns
returns c = let e : c.loop-l.l ≡ c.args.links.count = omega (arith, c.loop-l-test.false, c.loop-l.invariant.1) in rw e at c.loop-l.invariant.0
