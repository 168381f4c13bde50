use Prim.Native.Nat.{◌-◌, ◌≤◌}
use mathlib.Core.Path.{◌≡◌}
use Rattle.send_unit.specs.Inner.Words.{data_in}
use Rattle.send_unit.proofs.data_before.Given as goal

abbrev pub invariant-loop-m : goal.invariant-loop-m
invariant-loop-m l = (l.d ≡ data_in l.words l.m) × (l.d ≤ l.m) × (l.m ≤ l.n) × (l.n ≤ 386)

abbrev pub decreases-loop-m : goal.decreases-loop-m
decreases-loop-m l = l.n - l.m
