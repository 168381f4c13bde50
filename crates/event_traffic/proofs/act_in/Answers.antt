use Rattle.rules_event.specs.Asp.{active_effect, inactive_effect}
use Rattle.event_decision.specs.Inner.Decides.{act, by_yes, by_no}
use Rattle.event_traffic.specs.Inner.Aims.{mode_is_other}
use Rattle.event_traffic.proofs.act_in.Goals as goal

pub returns-then-on : goal.returns-then-on
unfolding act active_effect
returns-then-on c = record { on = λ g h. by_yes _ _ _ c.if-on.true (rw (mode_is_other g _ _ h) (rw (c.other_mode.ensures, c.flags-flags.ensures) at c.active_at.ensures)) }

pub returns : goal.returns
unfolding act inactive_effect
returns c = record { on = λ g h. by_no _ _ _ c.if-on.false (rw c.flags-flags.ensures at c.acked.ensures) }
