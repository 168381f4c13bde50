use Prim.Native.Nat.{◌≤◌, ◌-◌}
use mathlib.Core.Path.{◌≡◌}
use Rattle.laws.specs.Below.{any_below}
use Rattle.laws.specs.Columns.{flag_at}
use Rattle.rules_server.proofs.has_some.Given as goal

abbrev pub invariant-loop-q : goal.invariant-loop-q
invariant-loop-q l = (l.found ≡ any_below (flag_at l.x) l.q) × (l.q ≤ 16)

abbrev pub decreases-loop-q : goal.decreases-loop-q
decreases-loop-q l = 16 - l.q
