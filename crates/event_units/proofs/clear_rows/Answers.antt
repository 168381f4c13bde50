use native.Mathlib.Omega.{arith}
use borrow.Author.Rules.{rules}
use Rattle.event_units.specs.Inner.Rows.{rows_end, rows_more, rows_none}
use Rattle.event_units.proofs.clear_rows.Goals as goal

pub loop-a-init : goal.loop-a-init
loop-a-init g c = (rows_none _, omega arith)

pub loop-a-preserved : goal.loop-a-preserved
loop-a-preserved g c = (rows_more _ c.loop-a.invariant.0 c.clear_row.ensures, search rules)

pub returns : goal.returns
returns g c = rows_end _ c.loop-a.invariant.0 (search rules) c.loop-a-test.false
