use mathlib.Core.Path.{◌≡◌}
use Rattle.state_lookup.specs.Inner.Links.{rank}
use Rattle.state_ranges.specs.Inner.Of.{refused_of}
use Rattle.state_ranges.specs.Inner.Refused.{Good}
use Rattle.state_ranges.proofs.first_refused.Given as goal

abbrev pub invariant-loop-x : goal.invariant-loop-x
invariant-loop-x l = (l.l ≡ rank l.links.ids.iid.now l.links.ids.count l.x) × Good (refused_of l.links l.mine) l.start l.x
