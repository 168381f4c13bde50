use native.Mathlib.Omega.{arith}
use mathlib.Core.Path.{ap}
use mathlib.Core.Bool.{not}
use borrow.Author.Rules.{rules}
use Rattle.event_units.specs.Inner.Rows.{row_end, row_more, row_none, row_stays}
use Rattle.event_units.proofs.clear_row.Goals as goal

pub returns-then-not-go : goal.returns-then-not-go
returns-then-not-go g c = row_stays _ c.args.a c.args.go _ (ap not c.if-not-go.true)

pub loop-k-init : goal.loop-k-init
loop-k-init g c = (row_none _, omega arith)

pub loop-k-preserved : goal.loop-k-preserved
loop-k-preserved g c = (row_more _ c.loop-k.invariant.0, search rules)

pub returns : goal.returns
returns g c = row_end _ c.args.go c.loop-k.invariant.0 c.loop-k-test.false c.loop-k.invariant.1 (ap not c.if-not-go.false)
