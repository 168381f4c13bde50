use Prim.Native.Nat.{◌-◌}
use lib.ListN.{length}
use Rattle.codec_read.proofs.Turns.{Walked}
use Rattle.codec_read.proofs.read_pars.Given as goal

abbrev pub invariant-loop-tag : goal.invariant-loop-tag
invariant-loop-tag l = Walked l.s l.seen l.at

abbrev pub decreases-loop-tag : goal.decreases-loop-tag
decreases-loop-tag l = length l.s - l.at
