use Rattle.std.proofs.Common.{rules}
use Rattle.laws.specs.Inner.Columns.{is_tabulate}
use Rattle.state_tables.specs.Inner.Limits.{places}
use Rattle.state_tables.proofs.places.Goals as goal

pub invariant_of-result : goal.invariant_of-result
unfolding places
invariant_of-result c = let x = c.from_fn.ensures.items in record { each = is_tabulate 0 _ 128 (λ i. i) x.long (λ i b. let y = x.at i 0 b in search rules) }
