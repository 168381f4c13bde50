use Prim.Native.Nat.{◌≤◌, ◌-◌}
use mathlib.Core.Path.{◌≡◌}
use mathlib.Core.Bool.{true}
use Rattle.laws.specs.Below.{all_below}
use Rattle.laws.specs.Inner.Columns.{HalfCol}
use Rattle.state_tables.specs.Sound.{sound_row, active_in}
use Rattle.state_tables.specs.Inner.Limits.{limits_to, flags_of}
use Rattle.state_tables.proofs.ases_ok.Given as goal

abbrev pub invariant-loop-a : goal.invariant-loop-a
invariant-loop-a l = (all_below (sound_row l.up l.member l.active l.asps l.m) l.a ≡ true) × HalfCol (active_in l.active) (λ i. 0) 16 l.a l.count × (l.a ≤ l.m) × (l.m ≤ 16) × (l.top ≡ limits_to l.asps 2) × (l.on ≡ flags_of l.up)

abbrev pub decreases-loop-a : goal.decreases-loop-a
decreases-loop-a l = l.m - l.a
