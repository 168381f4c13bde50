-- The actions in an AS that an event names: s is its record before the event, t after it.
-- Assumes nothing.
use Rattle.std.specs.Prelude.{ℕ, Bool, ◌&&◌, cond, not, List, [], ◌++◌, eqb}
use Rattle.laws.specs.Below.{concat_below, when}
use Rattle.laws.specs.Columns.{flag_at}
use Rattle.rules_action.specs.Types.{mgmt_notify, as_state, other_active}
use Rattle.rules_action.specs.Words.{action}
use Rattle.rules_action.specs.declared.Action.{Action}
use Rattle.rules_server.specs.Record.{state_in}
use Rattle.rules_server.specs.Change.{after, overtaken_in}
use Rattle.rules_server.specs.Units.{let_out}
use Rattle.rules_server.specs.declared.AsRecord.{AsRecord}
use Rattle.rules_server.specs.declared.Change.{Change}

-- a Notify of AS a to ASP q (Rule 8.5)
abbrev pub notify : ℕ → ℕ → ℕ → Action
notify a value q = action q mgmt_notify a value

-- a state is told where it is another than before, and not down, which is 0 (Rule 8.5)
unfoldable pub is_notified : AsRecord → AsRecord → Bool
is_notified s t = not (eqb (state_in t) 0) && not (eqb (state_in s) (state_in t))

-- what ASP q gets: where it is overtaken, that another is active (Rule 7.11); and where a state is told and
-- it is up after the event, that state
unfoldable pub notifies_to : List Bool → AsRecord → AsRecord → ℕ → ℕ → List Action
notifies_to lost s t a q = when (flag_at lost q) (notify a other_active q) ++ when (is_notified s t && flag_at t.ups q) (notify a (as_state (state_in t)) q)

-- by ascending number of the ASP (Rule 8.3)
unfoldable pub notifies : List Bool → AsRecord → AsRecord → ℕ → List Action
notifies lost s t a = concat_below (notifies_to lost s t a) 16

-- the actions in AS a, from its record before the event and the n units that it holds: its units, then its
-- Notifies (Rule 8.3)
unfoldable pub actions_in : Bool → Change → ℕ → AsRecord → ℕ → List ℕ → List Action
actions_in named k a s n id = cond named (let_out k n id a ++ notifies (overtaken_in k s) s (after k s) a) []
