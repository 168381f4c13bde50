use Rattle.std.proofs.Common.{◌≡◌, ◌*◌, ◌++◌, take, drop}
use Rattle.tool_text.specs.Parse.{is_hex, unhex}
use Rattle.tool_text.proofs.octets_of.Given as goal

abbrev pub invariant-loop-i : goal.invariant-loop-i
invariant-loop-i l = (take l.i l.bytes ++ unhex (drop (2 * l.i) l.w) ≡ unhex l.w) × (is_hex (drop (2 * l.i) l.w) ≡ is_hex l.w) × (drop l.i l.bytes ≡ drop l.i l.initial.bytes)
