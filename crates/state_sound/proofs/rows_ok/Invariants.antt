use Prim.Native.Nat.{ℕ, ◌≤◌, ◌<◌, ◌-◌}
use mathlib.Core.Path.{◌≡◌}
use mathlib.Core.Bool.{true}
use Rattle.laws.specs.Below.{all_below}
use Rattle.laws.specs.Columns.{number_at}
use Rattle.state_sound.specs.Inner.Sound.{Seen, units_in, row_at}
use Rattle.state_sound.proofs.rows_ok.Given as goal

abbrev pub invariant-loop-a : goal.invariant-loop-a
invariant-loop-a l = (all_below (row_at (units_in l.held) l.links.iid.now l.links.owner.now l.links.count) l.a ≡ true) × (l.a ≤ 16) × Seen l.held.id.now l.links.iid.now l.links.owner.now l.links.count l.seen × ((i : ℕ) → i < 16 → number_at l.held.count.now i ≤ 8)

abbrev pub decreases-loop-a : goal.decreases-loop-a
decreases-loop-a l = 16 - l.a
