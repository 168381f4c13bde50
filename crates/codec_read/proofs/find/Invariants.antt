use Prim.Native.Nat.{◌-◌}
use mathlib.Core.Path.{◌≡◌}
use lib.ListN.{length}
use Rattle.codec_wire.specs.Walk.{walk}
use Rattle.codec_read.specs.Meaning.{found_in}
use Rattle.codec_read.proofs.find.Given as goal

abbrev pub invariant-loop-tag : goal.invariant-loop-tag
invariant-loop-tag l = found_in l.t l.u l.at (walk l.s l.at).pars ≡ found_in l.t l.u l.from (walk l.s l.from).pars

abbrev pub decreases-loop-tag : goal.decreases-loop-tag
decreases-loop-tag l = length l.s - l.at
