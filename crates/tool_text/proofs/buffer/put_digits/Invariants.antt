use Rattle.std.proofs.Common.{◌≡◌, ◌++◌, length, drop}
use Rattle.tool_text.specs.Digits.{digits}
use Rattle.tool_text.proofs.buffer.put_digits.Given as goal

abbrev pub invariant-loop-i : goal.invariant-loop-i
invariant-loop-i l = digits l.i l.rest ++ drop l.i l.places ≡ digits (length l.initial.places) l.n
