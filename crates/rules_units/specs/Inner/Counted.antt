-- Who has the words alone finds the unit that a Data sends by counting: units go in the sequence of their
-- actions.
-- Assumes nothing.
use Rattle.std.specs.Prelude.{ℕ, ◌/◌, ◌%◌, ◌&&◌, List, eqb, ltb}
use Rattle.laws.specs.Below.{concat_below, count_below, when}
use Rattle.laws.specs.Columns.{number_at}
use Rattle.state_tables.specs.declared.Gateway.{Gateway}
use Rattle.rules_action.specs.declared.Action.{Action}
use Rattle.rules_event.specs.Sent.{action_at, is_data}

-- the indices of the units that are gone from a state g to a state c, AS by AS, the oldest first: an AS lets
-- all of them go, or none
unfoldable pub gone : Gateway → Gateway → List ℕ
gone g c = concat_below (λ i. when (ltb (i % 8) (number_at g.held.count (i / 8)) && eqb (number_at c.held.count (i / 8)) 0) i) 128

-- how many of the first n actions are Data to an ASP
unfoldable pub data_before : List Action → ℕ → ℕ
data_before os n = count_below (λ m. is_data (action_at os m)) n
