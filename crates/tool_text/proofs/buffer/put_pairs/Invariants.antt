use Rattle.std.proofs.Common.{◌≡◌, ◌*◌, take}
use Rattle.tool_text.specs.Digits.{hex}
use Rattle.tool_text.proofs.buffer.put_pairs.Given as goal

abbrev pub invariant-loop-i : goal.invariant-loop-i
invariant-loop-i l = take (2 * l.i) l.out ≡ hex (take l.i l.s)
