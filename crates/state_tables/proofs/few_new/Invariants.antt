use Prim.Native.Nat.{◌≤◌, ◌-◌}
use mathlib.Core.Path.{◌≡◌}
use mathlib.Core.Bool.{true}
use Rattle.state_tables.specs.Sound.{differs}
use Rattle.laws.specs.Below.{all_below}
use Rattle.state_tables.proofs.few_new.Given as goal

abbrev pub invariant-loop-p : goal.invariant-loop-p
invariant-loop-p l = (all_below (differs l.aspid) l.p ≡ true) × (l.p ≤ l.n) × (l.n ≤ 16)

abbrev pub decreases-loop-p : goal.decreases-loop-p
decreases-loop-p l = l.n - l.p
