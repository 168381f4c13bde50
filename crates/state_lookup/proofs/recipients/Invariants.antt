use Prim.Native.Nat.{◌≤◌, ◌<◌, ◌-◌, ◌%◌}
use mathlib.Core.Path.{◌≡◌}
use Rattle.state_lookup.specs.Servers.{receives, before}
use Rattle.state_tables.specs.Sound.{active_in}
use Rattle.laws.specs.Columns.{flag_at}
use Rattle.laws.specs.Inner.Columns.{Half}
use Rattle.state_lookup.proofs.recipients.Given as goal

abbrev pub invariant-loop-q : goal.invariant-loop-q
invariant-loop-q l = Half (receives l.active l.mode l.a l.x) (flag_at l.initial.r) 16 l.q l.r × (l.n ≡ before l.active l.a l.q) × (l.q ≤ 16) × (l.a < 16) × (l.place ≡ l.x % active_in l.active l.a)

abbrev pub decreases-loop-q : goal.decreases-loop-q
decreases-loop-q l = 16 - l.q
