-- What an accepted event does: its actions, and the next state (Rule 7.1).
-- Assumes nothing.
use Rattle.std.specs.Prelude.{ℕ, ◌+◌, ◌*◌, ◌-◌, ◌≡◌, Bool, true, false, List, [], ◌∷◌, ◌++◌, take, drop}
use Rattle.laws.specs.Columns.{number_at}
use Rattle.codec_put.specs.Bytes.{overlay}
use Rattle.rules_action.specs.declared.Action.{Action}
use Rattle.rules_action.specs.Types.{mgmt_error}
use Rattle.rules_action.specs.Words.{action}
use Rattle.state_tables.specs.declared.Gateway.{Gateway}
use Rattle.rules_server.specs.declared.Change.{Change}
use Rattle.rules_server.specs.declared.Arrival.{Arrival}
use Rattle.rules_servers.specs.Changed.{with_change, with_link, with_unit, all_actions}

pub data Effect : Type 0 where
  -- actions alone
  send : List Action → Effect
  -- the link at an index comes to a state
  set_link : ℕ → ℕ → List Action → Effect
  -- replies, then a change in each of the flagged ASes, ascending, with its Notifies
  change_in : List Action → Change → List Bool → Effect
  -- a unit comes in for an AS, and is held
  take_in : ℕ → Arrival → Effect

-- replies first, then AS by AS upwards (Rule 8.3)
abbrev pub actions_of : Gateway → Effect → List Action
actions_of g (send os) = os
actions_of g (set_link l v os) = os
actions_of g (change_in os k named) = os ++ all_actions g k named
actions_of g (take_in a x) = []

abbrev pub state_after : Gateway → Effect → Gateway
state_after g (send os) = g
state_after g (set_link l v os) = with_link g l v
state_after g (change_in os k named) = with_change g k named
state_after g (take_in a x) = with_unit g a x

-- ---- the hold (Rule 5.22)

-- its bytes: sixteen ASes, each with eight places of 273
abbrev pub hold_bytes : ℕ
hold_bytes = 34944

-- where the bytes of unit k of AS a begin
abbrev pub hold_at : ℕ → ℕ → ℕ
hold_at a k = a * 2184 + k * 273

-- a unit that comes in is laid over its place, from the message s; all else stays, also what is left of a
-- place and a place that becomes free
abbrev pub hold_after : Gateway → List ℕ → Effect → List ℕ → List ℕ
hold_after g s (send os) h = h
hold_after g s (set_link l v os) h = h
hold_after g s (change_in os k named) h = h
hold_after g s (take_in a x) h = overlay h (hold_at a (number_at g.held.count a)) (take (x.length - 4) (drop x.start s))

-- whether a unit comes in
abbrev pub takes_in : Effect → Bool
takes_in (send os) = false
takes_in (set_link l v os) = false
takes_in (change_in os k named) = false
takes_in (take_in a x) = true

-- nothing else writes the hold: so no place is cleared as its unit goes out or is discarded
abbrev pub HoldStays : Type 0
HoldStays = (g : Gateway) (s : List ℕ) (d : Effect) (h : List ℕ) → takes_in d ≡ false → hold_after g s d h ≡ h

-- ---- actions

-- one action
abbrev pub one_action : ℕ → ℕ → ℕ → ℕ → List Action
one_action q k s v = action q k s v ∷ []

-- An Error with its code; that of code 2 says which identifier was refused (Rule 8.4).
abbrev pub error : ℕ → ℕ → List Action
error p n = one_action p mgmt_error 0 n

abbrev pub error2 : ℕ → ℕ → List Action
error2 p x = one_action p mgmt_error x 2
