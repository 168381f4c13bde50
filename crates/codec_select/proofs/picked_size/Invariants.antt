use Prim.Native.Nat.{◌+◌, ◌-◌, ◌≤◌}
use mathlib.Core.Path.{◌≡◌}
use lib.ListN.{length}
use Rattle.codec_select.specs.Inner.Picks.{picks}
use Rattle.codec_select.proofs.Turns.{left_size}
use Rattle.codec_select.proofs.picked_size.Given as goal

abbrev pub invariant-loop-tag : goal.invariant-loop-tag
invariant-loop-tag l = (l.size + left_size (picks l.which) l.msg l.at ≡ left_size (picks l.which) l.msg 8) × (l.size + 8 ≤ l.at) × (l.size ≤ length l.msg)

abbrev pub decreases-loop-tag : goal.decreases-loop-tag
decreases-loop-tag l = length l.msg - l.at
