use Prim.Native.Nat.{◌≤◌, ◌-◌, ◌+◌}
use mathlib.Core.Path.{◌≡◌}
use lib.Dec.{ltb}
use Rattle.laws.specs.Below.{count_below}
use Rattle.laws.specs.Columns.{number_at}
use Rattle.state_lookup.proofs.links.below_from.Given as goal

abbrev pub invariant-loop-j : goal.invariant-loop-j
invariant-loop-j l =
    (l.c ≡ count_below (λ i. ltb (number_at l.iid (l.first + i)) l.x) l.j) × (l.c ≤ l.j) × (l.j ≤ l.n) × (l.first + l.n ≤ 128)

abbrev pub decreases-loop-j : goal.decreases-loop-j
decreases-loop-j l = l.n - l.j
