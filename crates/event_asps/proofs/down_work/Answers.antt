use Rattle.rules_event.specs.Asp.{down_effect}
use Rattle.event_asps.proofs.down_work.Goals as goal

pub returns : goal.returns
unfolding down_effect
returns c = record { on = λ g e. rw e (rw (c.column_of.ensures, c.to_asp.ensures) at c.change_one.ensures) }
