use native.Mathlib.Omega.{arith}
use Rattle.state_plan.specs.Inner.Tables.{read_none, read_more, read_all}
use Rattle.state_plan.proofs.column.Goals as goal

-- `state_plan::column`: row by row. Assumes nothing.
pub loop-i-init : goal.loop-i-init
loop-i-init g c = (read_none _ _ _, omega arith, c.requires.0, c.requires.1)

pub loop-i-preserved : goal.loop-i-preserved
loop-i-preserved g c = let i = c.loop-i.invariant in (read_more _ i.0 (omega arith) c.read.ensures, omega arith, i.2, i.3)

pub returns : goal.returns
returns g c = read_all (omega arith) c.loop-i.invariant.0
