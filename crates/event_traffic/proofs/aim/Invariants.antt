use Rattle.event_traffic.specs.Inner.Named.{Refusing, Owners}
use Rattle.rules_servers.specs.Changed.{column_of}
use Rattle.state_ranges.specs.Named.{is_refused}
use Rattle.state_ranges.specs.Inner.Names.{as_refused}
use Rattle.state_ranges.specs.Inner.Of.{owned_of}
use Rattle.state_ranges.specs.Inner.Owners.{Looked}
use Rattle.state_sets.specs.Inner.Members.{members}
use Rattle.codec_wire.specs.Walk.{walk}
use lib.ListN.{length}
use mathlib.Core.Path.{◌≡◌}
use Prim.Native.Nat.{◌-◌}
use Rattle.event_traffic.proofs.aim.Given as goal

abbrev pub invariant-loop-tag : goal.invariant-loop-tag
invariant-loop-tag l = Refusing (is_refused l.links.ids.iid.now l.links.owner.now l.member l.links.ids.count l.p) (walk l.s l.at).pars (walk l.s 8).pars (as_refused l.named.refused) × Owners (owned_of l.links) (walk l.s l.at).pars (walk l.s 8).pars (members l.named.set) × Looked l.links.owner.now l.far (members l.named.set) × (members l.mine ≡ column_of l.member l.p)

abbrev pub decreases-loop-tag : goal.decreases-loop-tag
decreases-loop-tag l = length l.s - l.at
