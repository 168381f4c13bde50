-- The records of which the rules speak: a link, the AS that owns it, an ASP, and the sender of a message of
-- class 6 (Rule 5.27). A rule names a field of a record; here stands which column of the state the field is
-- read from.
-- Assumes nothing.
use Rattle.std.specs.Prelude.{ℕ}
use Rattle.laws.specs.Columns.{number_at}
use Rattle.state_tables.specs.Sound.{pair}
use Rattle.state_tables.specs.declared.Gateway.{Gateway}
use Rattle.rules_event.specs.declared.Asp.{Asp}
use Rattle.rules_event.specs.declared.Link.{Link}
use Rattle.rules_event.specs.declared.Owner.{Owner}
use Rattle.rules_event.specs.declared.Sender.{Sender}

-- the link at an index
abbrev pub link_at : Gateway → ℕ → Link
link_at g l =
    record {
      id = number_at g.iid l;
      owner = number_at g.owner l;
      state = number_at g.state l;
      highspeed = number_at g.highspeed l;
    }

-- AS a, of which the events of its links ask this
abbrev pub owner_of : Gateway → ℕ → Owner
owner_of g a = record { mode = number_at g.mode a; waiting = number_at g.waiting a; held = number_at g.held.count a }

-- ASP p itself
abbrev pub asp_at : Gateway → ℕ → Asp
asp_at g p = record { id = number_at g.aspid p; up = number_at g.up p; wholelists = number_at g.wholelists p }

-- ASP p as AS a has it
abbrev pub sender_of : Gateway → ℕ → ℕ → Sender
sender_of g a p = record { up = (asp_at g p).up; member = number_at g.member (pair a p); active = number_at g.active (pair a p) }
