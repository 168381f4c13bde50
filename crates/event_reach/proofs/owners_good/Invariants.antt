use Rattle.event_traffic.specs.Inner.Named.{Owners}
use Rattle.state_ranges.specs.Inner.Of.{owned_of}
use Rattle.state_ranges.specs.Inner.Owners.{Looked}
use Rattle.state_sets.specs.Inner.Members.{members}
use Rattle.codec_wire.specs.Walk.{walk}
use lib.ListN.{length}
use Prim.Native.Nat.{◌-◌}
use Rattle.event_reach.proofs.owners_good.Given as goal

abbrev pub invariant-loop-tag : goal.invariant-loop-tag
invariant-loop-tag l = Owners (owned_of l.links) (walk l.s l.at).pars (walk l.s 8).pars (members l.set) × Looked l.links.owner.now l.far (members l.set)

abbrev pub decreases-loop-tag : goal.decreases-loop-tag
decreases-loop-tag l = length l.s - l.at
