use native.Mathlib.Omega.{arith}
use Rattle.state_tables.specs.Inner.Every.{every_none, every_more, every_all}
use Rattle.state_tables.proofs.every_from.Goals as goal

pub loop-i-init : goal.loop-i-init
loop-i-init g c = (every_none _ _, omega arith, c.requires.0, c.requires.1)

pub loop-i-preserved : goal.loop-i-preserved
loop-i-preserved g c = let i = c.loop-i.invariant in (every_more _ i.1 i.0 c.test-ok.ensures, omega arith, omega arith, i.3)

pub returns : goal.returns
returns g c = every_all (omega arith) c.loop-i.invariant.0
