use Prim.Native.Nat.{ℕ, ◌≤◌, ◌<◌}
use Rattle.state_plan.specs.Inner.Tables.{Read}
use Rattle.state_plan.proofs.column.Given as goal

abbrev pub invariant-loop-i : goal.invariant-loop-i
invariant-loop-i g l = Read (goal.F-post g l.read) l.fn.zero g.row.N l.i l.r × (l.i ≤ l.n) × (l.n ≤ g.row.N) × ((i : ℕ) → i < l.n → goal.F-pre g l.read i)
