use mathlib.Core.Path.{◌∙◌}
use native.Mathlib.Omega.{arith}
use borrow.Author.Rules.{rules}
use Rattle.state_plan.specs.Plan.{members}
use Rattle.laws.specs.Inner.Columns.{half_more, half_end, half_at}
use Rattle.state_plan.proofs.Tables.{column_none, bit_at_lem, row_start, row_next, row_in_lem, row_end}
use Rattle.state_plan.proofs.members_of.Goals as goal

pub loop-a-init : goal.loop-a-init
loop-a-init c = (column_none 256 _, search rules)

pub loop-q-init : goal.loop-q-init
loop-q-init c = (half_at (row_start _) c.loop-a.invariant.0, search rules, search rules)

pub loop-q-preserved : goal.loop-q-preserved
loop-q-preserved c = let b = c.loop-q-test.true in (rw c.from.ensures (half_at (row_next _ _) (half_more _ c.loop-q.invariant.0 (row_in_lem _ _ c.loop-q.invariant.2 b) (c.bit_of.ensures ∙ bit_at_lem c.args.mask.now c.loop-a.a c.loop-q.q b))), search rules, search rules)

pub loop-a-preserved : goal.loop-a-preserved
loop-a-preserved c = (half_at (row_end _ _ c.loop-q-test.false c.loop-q.invariant.1) c.loop-q.invariant.0, search rules)

pub returns : goal.returns
unfolding members
returns c = half_end c.loop-a.invariant.0 (omega arith)
