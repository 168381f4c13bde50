use native.Mathlib.Omega.{arith}
use Rattle.state_tables.specs.Inner.Every.{every_below}
use Rattle.state_tables.proofs.every.Goals as goal

pub every_from-requires : goal.every_from-requires
every_from-requires g c = (omega arith, λ i b l. c.requires i l)

pub returns : goal.returns
returns g c = every_below c.every_from.ensures
