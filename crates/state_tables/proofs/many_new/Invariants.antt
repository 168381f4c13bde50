use Prim.Native.Nat.{◌≤◌, ◌-◌}
use mathlib.Core.Path.{◌≡◌}
use mathlib.Core.Bool.{true}
use Rattle.laws.specs.Below.{all_below}
use Rattle.laws.specs.Columns.{number_at}
use Rattle.state_tables.specs.Inner.Differ.{pad_with, differs_to}
use Rattle.state_tables.proofs.many_new.Given as goal

abbrev pub invariant-loop-p : goal.invariant-loop-p
invariant-loop-p l = (all_below (differs_to l.aspid (number_at l.aspid (l.n - 1))) l.p ≡ true) × (l.p ≤ l.n - 1) × (1 ≤ l.n) × (l.n ≤ 16) × (l.before ≡ pad_with l.aspid (number_at l.aspid (l.n - 1))) × (l.p-end ≡ l.n - 1)

abbrev pub decreases-loop-p : goal.decreases-loop-p
decreases-loop-p l = l.n - l.p
