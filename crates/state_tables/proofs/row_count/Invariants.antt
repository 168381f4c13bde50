use Prim.Native.Nat.{◌≤◌, ◌<◌, ◌-◌, ◌*◌}
use mathlib.Core.Path.{◌≡◌}
use mathlib.Core.Bool.{false}
use Rattle.laws.specs.Below.{any_below, count_below}
use Rattle.laws.specs.Columns.{is_set}
use Rattle.state_tables.specs.Sound.{pair}
use Rattle.state_tables.specs.Inner.Limits.{Flags}
use Rattle.state_tables.specs.Inner.Rows.{pair_fails}
use Rattle.state_tables.proofs.row_count.Given as goal

abbrev pub invariant-loop-q : goal.invariant-loop-q
invariant-loop-q l = (l.bad ≡ any_below (pair_fails l.top l.up l.member l.active l.a) l.q) × (l.bad ≡ false → l.n ≡ count_below (λ i. is_set l.active (pair l.a i)) l.q) × (l.n ≤ l.q * 255) × (l.q ≤ 16) × (l.a < 16) × Flags l.up

abbrev pub decreases-loop-q : goal.decreases-loop-q
decreases-loop-q l = 16 - l.q
