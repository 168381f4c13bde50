-- The state of lent columns: entries that work on the state where it lies are lent each column, and their
-- promises speak of the state that these make up.
-- Assumes nothing.
use Rattle.std.specs.Prelude.{ℕ, List}
use Rattle.state_tables.specs.declared.Gateway.{Gateway}
use Rattle.state_tables.specs.declared.Units.{Units}

abbrev pub gateway_of : ℕ → ℕ → ℕ → ℕ → List ℕ → List ℕ → List ℕ → List ℕ → List ℕ → List ℕ → List ℕ → List ℕ → List ℕ → List ℕ → List ℕ → Units → Gateway
gateway_of asps ases links spare aspid up member active mode waiting iid owner state highspeed wholelists held =
    record {
      asps = asps;
      ases = ases;
      links = links;
      spare = spare;
      aspid = aspid;
      up = up;
      member = member;
      active = active;
      mode = mode;
      waiting = waiting;
      iid = iid;
      owner = owner;
      state = state;
      highspeed = highspeed;
      wholelists = wholelists;
      held = held;
    }

-- its units
abbrev pub units_of : List ℕ → List ℕ → List ℕ → List ℕ → List ℕ → List ℕ → Units
units_of count tag length marked id correlation =
    record { count = count; tag = tag; length = length; marked = marked; id = id; correlation = correlation }
