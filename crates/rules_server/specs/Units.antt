-- The units that an AS holds, as it becomes active (Rule 7.25).
-- Assumes nothing.
use Rattle.std.specs.Prelude.{ℕ, List, [], ltb}
use Rattle.laws.specs.Below.{concat_below, when}
use Rattle.laws.specs.Columns.{number_at}
use Rattle.state_tables.specs.Sound.{most_held, unit_index}
use Rattle.rules_action.specs.Types.{user_data}
use Rattle.rules_action.specs.declared.Action.{Action}
use Rattle.rules_server.specs.declared.Change.{Change}
use Rattle.rules_server.specs.declared.Change.TheVariants.{AspUp, AspDown, Deactivate, Activate, Recover}

-- the unit at index i, as an action to ASP p
abbrev pub sending : ℕ → List ℕ → ℕ → Action
sending p id i = record { to = p; classtype = user_data; subject = number_at id i; value = 0; unit = i }

-- that in place k of AS a, which holds n
unfoldable pub unit_out : ℕ → ℕ → List ℕ → ℕ → ℕ → List Action
unit_out p n id a k = when (ltb k n) (sending p id (unit_index a k))

-- each of them, the oldest first
unfoldable pub units_out : ℕ → ℕ → List ℕ → ℕ → List Action
units_out p n id a = concat_below (unit_out p n id a) most_held

-- they go out to the ASP that becomes active; nothing else sends one
unfoldable pub let_out : Change → ℕ → List ℕ → ℕ → List Action
let_out (AspUp p) n id a = []
let_out (AspDown p) n id a = []
let_out (Deactivate p) n id a = []
let_out (Activate p) n id a = units_out p n id a
let_out Recover n id a = []
