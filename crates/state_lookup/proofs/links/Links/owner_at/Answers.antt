use native.Mathlib.Omega.{arith}
use Rattle.state_tables.specs.Inner.Column.{under_at}
use Rattle.state_lookup.proofs.links.Links.owner_at.Goals as goal

pub returns : goal.returns
returns c = let t = c.args.self in (c.from.ensures, omega (arith, c.from.ensures, under_at t.owner.now 16 t.ids.count t.owned c.args.l c.requires))
