-- What is lent to the writer behind an event that was run.
-- Assumes nothing.
use Rattle.std.specs.Prelude.{ℕ, ◌+◌, ◌≤◌, List, leb, length}
use Rattle.state_tables.specs.State.{units_of}
use Rattle.state_tables.specs.declared.Gateway.{Gateway}
use Rattle.state_tables.specs.declared.Units.{Units}
use Rattle.rules_event.specs.Sent.{actions_on}
use Rattle.event_asked.specs.Happened.{happened}
use Rattle.send_message.specs.Send.{part_at}
use Rattle.send_unit.specs.declared.Columns.{Columns}
use Rattle.send_orders.specs.declared.Before.{Before}
use Rattle.send_orders.specs.declared.Given.{Given}
use Rattle.send_orders.specs.Inner.Batch.{Ended}
use Rattle.send_orders.specs.Inner.Ran.{Ran}

-- the state g with the columns of it that are lent
abbrev pub lent_state : Gateway → ℕ → List ℕ → List ℕ → List ℕ → Units → Gateway
lent_state g links member iid owner held =
    record {
      asps = g.asps;
      ases = g.ases;
      links = links;
      spare = g.spare;
      aspid = g.aspid;
      up = g.up;
      member = member;
      active = g.active;
      mode = g.mode;
      waiting = g.waiting;
      iid = iid;
      owner = owner;
      state = g.state;
      highspeed = g.highspeed;
      wholelists = g.wholelists;
      held = held;
    }

abbrev lent_units : Gateway → List ℕ → List ℕ → List ℕ → List ℕ → List ℕ → Units
lent_units g count tags lengths marks correlations = units_of count tags lengths marks g.held.id correlations

-- the columns lent, of the state before the event; and the counts of units behind it
pub record Lines : Type 0 where
  pub member : List ℕ
  pub iid : List ℕ
  pub owner : List ℕ
  pub was : List ℕ
  pub after : List ℕ
  pub tags : List ℕ
  pub lengths : List ℕ
  pub marks : List ℕ
  pub correlations : List ℕ

abbrev pub lines_of : List ℕ → List ℕ → List ℕ → List ℕ → List ℕ → List ℕ → List ℕ → List ℕ → List ℕ → Lines
lines_of member iid owner was after tags lengths marks correlations =
    record {
      member = member;
      iid = iid;
      owner = owner;
      was = was;
      after = after;
      tags = tags;
      lengths = lengths;
      marks = marks;
      correlations = correlations;
    }

abbrev pub lines_in : Before → Columns → Lines
lines_in b u = lines_of b.member.now b.iid.now b.owner.now u.counts.now b.after.now u.tags.now u.lengths.now u.marks.now u.correlations.now

-- a state before the event that has them, and one behind it
abbrev pub before : Given → Lines → Gateway → Gateway
before t v g = lent_state g t.links v.member v.iid v.owner (lent_units g v.was v.tags v.lengths v.marks v.correlations)

abbrev pub behind : Lines → Gateway → Gateway
behind v c = lent_state c c.links c.member c.iid c.owner (units_of v.after c.held.tag c.held.length c.held.marked c.held.id c.held.correlation)

-- the event was run on such a state, with the message s and the hold h
abbrev pub RanOn : Given → Lines → List ℕ → List ℕ → List ℕ → Gateway → Gateway → Type 0
RanOn t v ws s h g c = Ran (before t v g) h (happened t.kind t.index s) t.count ws (behind v c)

-- what is written of each such state
abbrev pub WrittenOf : Given → Lines → List ℕ → List ℕ → Gateway → List ℕ → List ℕ → ℕ → ℕ → List ℕ → List ℕ → Type 0
WrittenOf t v s h g lens out n at lens' out' =
    Ended (λ j. part_at (before t v g) h (happened t.kind t.index s) (t.place + j)) (λ j. leb (length (actions_on (before t v g) (happened t.kind t.index s))) (t.place + j)) lens out n at lens' out'

-- what the writer asks for: there is such a state; and what it promises: of each
abbrev pub CanWrite : Given → Lines → List ℕ → List ℕ → List ℕ → Type 0
CanWrite t v ws s h = (t.place ≤ t.count) × (g : Gateway) × (c : Gateway) × RanOn t v ws s h g c

abbrev pub Wrote : Given → Lines → List ℕ → List ℕ → List ℕ → List ℕ → List ℕ → ℕ → ℕ → List ℕ → List ℕ → Type 0
Wrote t v ws s h lens out n at lens' out' = (g c : Gateway) → RanOn t v ws s h g c → WrittenOf t v s h g lens out n at lens' out'
