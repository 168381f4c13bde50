use mathlib.Core.Path.{refl}
use borrow.Author.Rules.{rules}
use Rattle.laws.specs.Inner.Columns.{half_end, half_more, half_none}
use Rattle.state_tables.specs.Inner.Limits.{flags_of}
use Rattle.state_tables.proofs.flags.Goals as goal

pub loop-q-init : goal.loop-q-init
loop-q-init c = (half_none _ 16 _ refl, search rules)

pub bounds-r-q : goal.bounds-r-q
bounds-r-q c = search rules

pub loop-q-preserved : goal.loop-q-preserved
loop-q-preserved c = (half_more _ c.loop-q.invariant.0 c.loop-q-test.true (search rules), search rules)

pub returns : goal.returns
unfolding flags_of
returns c = half_end c.loop-q.invariant.0 c.loop-q-test.false
