use Rattle.event_units.specs.Inner.Rows.{RowKept, row_left}
use Rattle.event_units.proofs.clear_row.Given as goal

abbrev pub invariant-loop-k : goal.invariant-loop-k
invariant-loop-k g l = RowKept l.zero l.initial.c l.a l.go l.initial.k l.c l.k

abbrev pub decreases-loop-k : goal.decreases-loop-k
decreases-loop-k g l = row_left l.zero l.initial.c l.a l.go l.initial.k l.c l.k
