use Prim.Native.Nat.{◌≤◌, ◌-◌, ◌*◌}
use mathlib.Core.Path.{◌≡◌}
use lib.Dec.{ltb}
use Rattle.laws.specs.Below.{count_below}
use Rattle.laws.specs.Columns.{number_at}
use Rattle.state_lookup.proofs.links.Identifiers.eighths_below.Given as goal

abbrev pub invariant-loop-k : goal.invariant-loop-k
invariant-loop-k l =
    (l.c ≡ count_below (λ i. ltb (number_at l.self.iid.now (8 * i)) l.x) l.k) × (l.c ≤ l.k) × (l.k ≤ l.n) × (l.n ≤ 16)

abbrev pub decreases-loop-k : goal.decreases-loop-k
decreases-loop-k l = l.n - l.k
