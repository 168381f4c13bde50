use mathlib.Core.Path.{◌≡◌, refl}
use mathlib.Core.Bool.{Bool, true, false, not, ◌&&◌, ◌||◌}
use Rattle.event_traffic.specs.Inner.Aims.{nothing_done}
use Rattle.event_traffic.proofs.does_nothing.Goals as goal

or_none : (u : Bool) → (u || false) ≡ u
or_none true = refl
or_none false = refl

each : (ids found whole none : Bool) → ((ids && (found && (whole || none))) || (not ids && none)) ≡ nothing_done ids found whole none
unfolding nothing_done
each true found whole none = or_none (found && (whole || none))
each false found whole none = refl

pub returns : goal.returns
returns c = each c.args.ids c.args.found c.args.whole c.args.none
