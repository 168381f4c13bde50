use Prim.Native.Nat.{◌-◌}
use lib.ListN.{length}
use Rattle.codec_put.proofs.Puts.{Puts}
use Rattle.codec_select.specs.Inner.Picks.{picks}
use Rattle.codec_select.proofs.Turns.{left}
use Rattle.codec_select.proofs.put_picked.Given as goal

abbrev pub invariant-loop-tag : goal.invariant-loop-tag
invariant-loop-tag l = Puts (left (picks l.which) l.msg 8) l.initial.out l.from l.out l.at (left (picks l.which) l.msg l.pos)

abbrev pub decreases-loop-tag : goal.decreases-loop-tag
decreases-loop-tag l = length l.msg - l.pos
