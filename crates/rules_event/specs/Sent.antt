-- The actions of an event, place by place, and the unit held that each Data to an ASP sends (Rules 8.15,
-- 8.18).
-- Assumes nothing.
use Rattle.std.specs.Prelude.{Bool, true, false, ◌&&◌, not, List, ℕ, eqb, ltb, length, get_or}
use Rattle.state_tables.specs.declared.Gateway.{Gateway}
use Rattle.rules_action.specs.declared.Action.{Action}
use Rattle.rules_action.specs.Types.{user_data}
use Rattle.rules_action.specs.Words.{action, link_side}
use Rattle.rules_event.specs.Event.{EventKind, message, lost, recovery, link_up, link_down, link_message}
use Rattle.rules_event.specs.Effect.{actions_of}
use Rattle.rules_event.specs.Rules.{effect_of}

-- the actions of an event, whatever is lent
abbrev pub actions_on : Gateway → EventKind → List Action
actions_on g k = actions_of g (effect_of g k)

-- the action at a place; beyond them, one to the link side
unfoldable pub action_at : List Action → ℕ → Action
action_at os n = get_or os n (action link_side 0 0 0)

-- the place is that of an action to an ASP
unfoldable pub is_sent : List Action → ℕ → Bool
is_sent os n = ltb n (length os) && not (eqb (action_at os n).to link_side)

-- Data to an ASP
unfoldable pub is_data : Action → Bool
is_data o = eqb o.classtype user_data && not (eqb o.to link_side)

-- the unit that the action at place n sends, if it sends one
abbrev pub unit_for : Gateway → EventKind → ℕ → ℕ
unit_for g k n = (action_at (actions_on g k) n).unit

-- what the link side sends is passed on, and was not held
abbrev pub is_passed : EventKind → Bool
is_passed (message p s) = false
is_passed (lost p) = false
is_passed (recovery a) = false
is_passed (link_up l) = false
is_passed (link_down l) = false
is_passed (link_message s) = true
