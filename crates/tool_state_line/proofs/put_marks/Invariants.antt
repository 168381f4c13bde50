use Rattle.std.proofs.Common.{◌≡◌, ◌+◌, length}
use Rattle.tool_state_line.proofs.put_marks.Given as goal

abbrev pub invariant-loop-mark : goal.invariant-loop-mark
invariant-loop-mark l = length l.out ≡ length l.initial.out + l.mark-index
