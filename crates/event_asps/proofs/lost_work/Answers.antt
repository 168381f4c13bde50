use Rattle.rules_event.specs.Asp.{lost_effect}
use Rattle.event_asps.proofs.lost_work.Goals as goal

pub returns : goal.returns
unfolding lost_effect
returns c = record { on = λ g e. rw e (rw c.column_of.ensures at c.change_only.ensures) }
