-- The state after a change in some ASes, and the actions there, from the state before it (Rules 7.1, 8.3).
-- Assumes nothing.
use Rattle.std.specs.Prelude.{ℕ, zero, suc, ◌+◌, ◌/◌, ◌%◌, Bool, cond, not, ◌&&◌, List, [], ◌∷◌, eqb, ltb, set}
use Rattle.laws.specs.Below.{one, concat_below}
use Rattle.laws.specs.Columns.{flag_at, is_set, number_at, tabulate}
use Rattle.state_tables.specs.Sound.{pair, unit_index}
use Rattle.state_tables.specs.declared.Gateway.{Gateway}
use Rattle.state_tables.specs.declared.Units.{Units}
use Rattle.rules_action.specs.declared.Action.{Action}
use Rattle.rules_server.specs.declared.AsRecord.{AsRecord}
use Rattle.rules_server.specs.declared.Arrival.{Arrival}
use Rattle.rules_server.specs.declared.Change.{Change}
use Rattle.rules_server.specs.declared.Change.TheVariants.{AspUp, AspDown, Deactivate, Activate, Recover}
use Rattle.rules_server.specs.Record.{record_of}
use Rattle.rules_server.specs.Change.{after}
use Rattle.rules_server.specs.Notify.{actions_in}

-- the ASes of ASP p, or those in which it is active
unfoldable pub column_of : List ℕ → ℕ → List Bool
column_of c p = tabulate 16 (λ a. is_set c (pair a p))

-- the column with x at place p
unfoldable pub with_flag : List ℕ → ℕ → ℕ → List ℕ
with_flag c p x = tabulate 16 (λ q. cond (eqb q p) x (number_at c q))

-- Up brings p up, Down and lost bring it down; nothing else changes an up flag
abbrev pub up_after : Change → List ℕ → List ℕ
up_after (AspUp p) up = with_flag up p 1
up_after (AspDown p) up = with_flag up p 0
up_after (Deactivate p) up = up
up_after (Activate p) up = up
up_after Recover up = up

-- place by place: the new record's where its AS is named, else as it was. `records` and the column are those
-- before the event.
unfoldable pub new_active : Change → List Bool → (ℕ → AsRecord) → List ℕ → ℕ → ℕ
new_active k named records c i =
    cond (flag_at named (i / 16)) (one (flag_at (after k (records (i / 16))).acts (i % 16))) (number_at c i)

unfoldable pub new_waiting : Change → List Bool → (ℕ → AsRecord) → List ℕ → ℕ → ℕ
new_waiting k named records c a = cond (flag_at named a) (one (after k (records a)).waiting) (number_at c a)

-- ---- the units held

-- the numbers from place i on, with 0 at the places that p marks
unfoldable pub cleared_from : (ℕ → Bool) → ℕ → List ℕ → List ℕ
cleared_from p i [] = []
cleared_from p i (x ∷ c) = cond (p i) 0 x ∷ cleared_from p (suc i) c

abbrev pub cleared : (ℕ → Bool) → List ℕ → List ℕ
cleared p c = cleared_from p 0 c

-- AS a lets its units go: it has some, the event names it, and it waits no longer (Rules 7.25, 7.26)
unfoldable pub lets_go : Change → List Bool → (ℕ → AsRecord) → List ℕ → ℕ → Bool
lets_go k named records count a = ltb 0 (number_at count a) && (flag_at named a && not (after k (records a)).waiting)

-- their places hold 0 again; `go` says which ASes let them go
abbrev pub units_without : (ℕ → Bool) → Units → Units
units_without go u =
    record {
      count = cleared go u.count;
      tag = cleared (λ i. go (i / 8)) u.tag;
      length = cleared (λ i. go (i / 8)) u.length;
      marked = cleared (λ i. go (i / 8)) u.marked;
      id = cleared (λ i. go (i / 8)) u.id;
      correlation = cleared (λ i. go (i / 8)) u.correlation;
    }

-- a unit more for AS a, behind those that it has (Rule 7.24)
abbrev pub units_with : Units → ℕ → Arrival → Units
units_with u a x =
    let i : ℕ = unit_index a (number_at u.count a) in
    record {
      count = set u.count a (number_at u.count a + 1);
      tag = set u.tag i x.tag;
      length = set u.length i x.length;
      marked = set u.marked i x.marked;
      id = set u.id i x.id;
      correlation = set u.correlation i x.correlation;
    }

-- ---- the whole state

-- the gateway with these columns, and its plan
abbrev pub with_columns : Gateway → List ℕ → List ℕ → List ℕ → List ℕ → Units → Gateway
with_columns g up active waiting state held =
    record {
      asps = g.asps;
      ases = g.ases;
      links = g.links;
      spare = g.spare;
      aspid = g.aspid;
      up = up;
      member = g.member;
      active = active;
      mode = g.mode;
      waiting = waiting;
      iid = g.iid;
      owner = g.owner;
      state = state;
      highspeed = g.highspeed;
      wholelists = g.wholelists;
      held = held;
    }

unfoldable pub with_change : Gateway → Change → List Bool → Gateway
with_change g k named =
    with_columns g (up_after k g.up) (tabulate 256 (new_active k named (record_of g) g.active)) (tabulate 16 (new_waiting k named (record_of g) g.waiting)) g.state
    (units_without (lets_go k named (record_of g) g.held.count) g.held)

-- the gateway with the link at an index in a state
abbrev pub with_link : Gateway → ℕ → ℕ → Gateway
with_link g l v = with_columns g g.up g.active g.waiting (set g.state l v) g.held

-- the gateway with a unit more for AS a
abbrev pub with_unit : Gateway → ℕ → Arrival → Gateway
with_unit g a x = with_columns g g.up g.active g.waiting g.state (units_with g.held a x)

unfoldable pub actions_at : Change → List Bool → (ℕ → AsRecord) → List ℕ → List ℕ → ℕ → List Action
actions_at k named records count id a = actions_in (flag_at named a) k a (records a) (number_at count a) id

-- AS by AS upwards (Rule 8.3)
unfoldable pub all_actions : Gateway → Change → List Bool → List Action
all_actions g k named = concat_below (actions_at k named (record_of g) g.held.count g.held.id) 16
