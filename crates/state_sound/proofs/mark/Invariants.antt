use Prim.Native.Nat.{◌≤◌, ◌<◌, ◌-◌, ◌*◌}
use mathlib.Core.Path.{◌≡◌}
use Rattle.state_sound.specs.Inner.Sound.{Marked}
use Rattle.state_sound.proofs.mark.Given as goal

abbrev pub invariant-loop-k : goal.invariant-loop-k
invariant-loop-k l = Marked l.id l.x l.a l.k l.initial.seen l.seen × (l.k ≤ 8) × (l.from ≡ l.a * 8) × (l.a < 16)

abbrev pub decreases-loop-k : goal.decreases-loop-k
decreases-loop-k l = 8 - l.k
