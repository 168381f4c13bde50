use Prim.Native.Nat.{ℕ, ◌%◌}
use mathlib.Core.Path.{ap}
use Rattle.state_lookup.specs.Inner.Table.{table_of}
use Rattle.state_sets.specs.Inner.Bits.{flags_long}
use Rattle.state_sets.specs.Inner.Members.{members}
use Rattle.state_names.specs.Inner.Found.{found_names}
use Rattle.state_names.proofs.with_found.Goals as goal

-- by what the table says of it
pub bounds-links-l : goal.bounds-links-l
bounds-links-l c = c.requires.1

pub returns : goal.returns
returns c =
    let old = c.args.old in
    found_names _ _ _ (table_of c.args.links) (members c.args.mine) _ old.refused (members old.set) (flags_long _) _ _ _ _ c.requires.0 (ap (λ (x : ℕ). x % 16) c.from-a.ensures) (rw (c.then_some.ensures, c.has.ensures) at c.or.ensures) c.with_if.ensures
