-- An event on the state where it lies: what is handed back, with the columns as they are left, is an outcome.
-- Assumes nothing.
use Rattle.state_tables.specs.declared.Gateway.{Gateway}
use Rattle.rules_event.specs.declared.Outcome.{Outcome}
use Rattle.event_run.specs.declared.Done.{Done}

abbrev pub outcome_of : Done → Gateway → Outcome
outcome_of r g = record { refusal = r.refusal; count = r.count; gateway = g }
