use Prim.Native.Nat.{ℕ, ◌≤◌, ◌<◌}
use Rattle.state_tables.specs.Inner.Every.{EveryFrom}
use Rattle.state_tables.proofs.every_from.Given as goal

abbrev pub invariant-loop-i : goal.invariant-loop-i
invariant-loop-i g l = EveryFrom (goal.F-post g l.test) l.first l.i l.ok × (l.first ≤ l.i) × (l.i ≤ l.end) × ((i : ℕ) → l.first ≤ i → i < l.end → goal.F-pre g l.test i)
