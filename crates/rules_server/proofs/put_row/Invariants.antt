use Prim.Native.Nat.{◌≤◌, ◌-◌, ◌+◌, ◌*◌}
use Rattle.laws.specs.Columns.{number_at}
use Rattle.laws.specs.Inner.Columns.{HalfCol}
use Rattle.rules_server.specs.Inner.Record.{with_row_at}
use Rattle.rules_server.proofs.put_row.Given as goal

abbrev pub invariant-loop-q : goal.invariant-loop-q
invariant-loop-q l = HalfCol (with_row_at l.initial.column l.a l.x) (number_at l.initial.column) 256 (l.a * 16 + l.q) l.column × (l.q ≤ 16)

abbrev pub decreases-loop-q : goal.decreases-loop-q
decreases-loop-q l = 16 - l.q
