use Rattle.event_decision.specs.Inner.Decides.{decisions, by_no}
use Rattle.event_traffic.proofs.active_at.Goals as goal

pub returns-then-other : goal.returns-then-other
returns-then-other c = search decisions depth 5

pub returns : goal.returns
returns c = by_no _ _ _ c.if-other.false c.acked.ensures
