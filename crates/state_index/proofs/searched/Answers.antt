use native.Mathlib.Omega.{arith}
use Rattle.state_index.proofs.searched.Goals as goal

pub returns-in-Some : goal.returns-in-Some
returns-in-Some c = let i = c.in-Some.ensures in (i, omega (arith, c.args.ids.few, i.1))

pub returns-in-None : goal.returns-in-None
returns-in-None c = (c.in-None.ensures, omega arith)
