use Prim.Native.Nat.{◌≤◌, ◌-◌}
use mathlib.Core.Path.{◌≡◌}
use mathlib.Core.Bool.{true}
use Rattle.laws.specs.Below.{all_below}
use Rattle.state_sound.specs.Inner.Sound.{units_in, empty_at}
use Rattle.state_sound.proofs.empties_ok.Given as goal

abbrev pub invariant-loop-a : goal.invariant-loop-a
invariant-loop-a l = (all_below (empty_at (units_in l.held)) l.a ≡ true) × (l.a ≤ 16)

abbrev pub decreases-loop-a : goal.decreases-loop-a
decreases-loop-a l = 16 - l.a
