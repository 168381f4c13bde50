use native.Mathlib.Omega.{arith}
use mathlib.Core.Path.{◌∙◌}
use borrow.Author.Rules.{rules}
use Rattle.rules_servers.specs.Inner.Units.{numbers_emptied}
use Rattle.event_units.specs.Inner.Rows.{rows_end, rows_none, rows_place}
use Rattle.event_units.proofs.clear_counts.Goals as goal

pub loop-a-init : goal.loop-a-init
loop-a-init c = (rows_none 0, omega arith)

pub loop-a-preserved : goal.loop-a-preserved
loop-a-preserved c = (rows_place 0 c.loop-a.invariant.0 c.unless.ensures, search rules)

pub returns : goal.returns
returns c = rows_end 0 c.loop-a.invariant.0 (search rules) c.loop-a-test.false ∙ numbers_emptied _ _
