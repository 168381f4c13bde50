-- What is kept of one AS (Rule 5.3).
-- Assumes nothing.
use Rattle.std.specs.Prelude.{ℕ, Bool, ◌&&◌, cond, List}
use Rattle.laws.specs.Below.{any_below}
use Rattle.laws.specs.Columns.{flag_at, is_set, number_at, tabulate}
use Rattle.state_tables.specs.Sound.{pair}
use Rattle.state_tables.specs.declared.Gateway.{Gateway}
use Rattle.rules_server.specs.declared.AsRecord.{AsRecord}

-- the row of AS a: a flag for each ASP
unfoldable pub row : List ℕ → ℕ → List Bool
row c a = tabulate 16 (λ q. is_set c (pair a q))

-- the members of AS a that are up
unfoldable pub members_up : List ℕ → List ℕ → ℕ → List Bool
members_up up member a = tabulate 16 (λ q. is_set member (pair a q) && is_set up q)

-- cut out of the columns
unfoldable pub record_from : List ℕ → List ℕ → List ℕ → List ℕ → List ℕ → ℕ → AsRecord
record_from up member active waiting mode a =
    record { ups = members_up up member a; acts = row active a; waiting = is_set waiting a; mode = number_at mode a }

abbrev pub record_of : Gateway → ℕ → AsRecord
record_of g a = record_from g.up g.member g.active g.waiting g.mode a

-- whether some flag is set
unfoldable pub some : List Bool → Bool
some x = any_below (flag_at x) 16

-- its state (Rule 5.2): 3 active, 4 pending, 2 inactive, 0 down
unfoldable pub state_in : AsRecord → ℕ
state_in s = cond (some s.acts) 3 (cond s.waiting 4 (cond (some s.ups) 2 0))
