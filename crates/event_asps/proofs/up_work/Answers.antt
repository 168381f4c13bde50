use Rattle.rules_event.specs.Asp.{up_effect}
use Rattle.rules_event.specs.declared.Asp.{Asp}
use Rattle.event_decision.specs.Inner.Decides.{by_yes, by_no}
use mathlib.Core.Path.{ap, sym, ◌∙◌}
use Rattle.event_asps.proofs.up_work.Goals as goal

pub returns-then-is_other : goal.returns-then-is_other
unfolding up_effect
returns-then-is_other c = record { on = λ g h. rw (ap (λ (x : Asp). x.id) h.0, h.1, h.2) (by_yes _ _ _ (sym c.is_other.ensures ∙ c.if-is_other.true) c.error.ensures) }

pub returns : goal.returns
unfolding up_effect
returns c = record { on = λ g h. rw (ap (λ (x : Asp). x.id) h.0, h.1, h.2) (by_no _ _ _ (sym c.is_other.ensures ∙ c.if-is_other.false) (rw (c.column_of-2.ensures, c.has_some.ensures, c.column_of.ensures) at c.rise.ensures)) }
