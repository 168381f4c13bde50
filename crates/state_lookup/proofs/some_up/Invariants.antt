use Prim.Native.Nat.{◌≤◌, ◌<◌, ◌-◌, ◌+◌, ◌*◌}
use mathlib.Core.Path.{◌≡◌}
use mathlib.Core.Bool.{◌&&◌}
use Rattle.laws.specs.Below.{any_below}
use Rattle.laws.specs.Columns.{is_set}
use Rattle.state_lookup.proofs.some_up.Given as goal

abbrev pub invariant-loop-q : goal.invariant-loop-q
invariant-loop-q l = (l.found ≡ any_below (λ i. is_set l.member (l.a * 16 + i) && is_set l.up i) l.q) × (l.q ≤ 16) × (l.a < 16)

abbrev pub decreases-loop-q : goal.decreases-loop-q
decreases-loop-q l = 16 - l.q
