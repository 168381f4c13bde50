-- The contracts of the loop over the ASes, and of a turn of it.
-- Assumes nothing.
use Rattle.std.specs.Prelude.{ℕ, ◌*◌, ◌≡◌, Bool, cond, List, set}
use Rattle.laws.specs.Below.{one, concat_below}
use Rattle.laws.specs.Columns.{tabulate, number_at}
use Rattle.laws.specs.Inner.Columns.{HalfCol}
use Rattle.state_tables.specs.declared.Gateway.{Gateway}
use Rattle.rules_action.specs.Inner.Words.{Written, Emitted}
use Rattle.rules_server.specs.declared.AsRecord.{AsRecord}
use Rattle.rules_server.specs.declared.Change.{Change}
use Rattle.rules_server.specs.Record.{record_of}
use Rattle.rules_server.specs.Inner.Record.{with_row}
use Rattle.rules_server.specs.Change.{after}
use Rattle.rules_server.specs.Notify.{actions_in}
use Rattle.rules_servers.specs.Changed.{new_active, new_waiting, actions_at, all_actions}

-- what a step in AS a leaves of the columns and the words; s is the AS's record before it, `held` how many
-- units it has
pub record Stepped (k : Change) (named : Bool) (a : ℕ) (s : AsRecord) (held : ℕ) (id : List ℕ) (active waiting : List ℕ) (ws : List ℕ) (n : ℕ) (active' waiting' : List ℕ) (ws' : List ℕ) (r : ℕ) : Type 0 where
  pub wrote : Written ws n (actions_in named k a s held id) ws' r
  pub acts : active' ≡ cond named (with_row active a (after k s).acts) active
  pub waits : waiting' ≡ cond named (set waiting a (one (after k s).waiting)) waiting

-- what the loop leaves of them; `records` are those before the event
pub record Ran (k : Change) (named : List Bool) (records : ℕ → AsRecord) (count id : List ℕ) (active waiting : List ℕ) (ws : List ℕ) (n : ℕ) (active' waiting' : List ℕ) (ws' : List ℕ) (r : ℕ) : Type 0 where
  pub wrote : Written ws n (concat_below (actions_at k named records count id) 16) ws' r
  pub acts : active' ≡ tabulate 256 (new_active k named records active)
  pub waits : waiting' ≡ tabulate 16 (new_waiting k named records waiting)

-- what the loop has done before AS a: the actions, rows and waiting marks of the ASes below a are written
pub record Running (k : Change) (named : List Bool) (records : ℕ → AsRecord) (count id : List ℕ) (active₀ waiting₀ : List ℕ) (ws : List ℕ) (n a : ℕ) (active waiting : List ℕ) (ws' : List ℕ) (r : ℕ) : Type 0 where
  pub wrote : Emitted (actions_at k named records count id) ws n a ws' r
  pub acts : HalfCol (new_active k named records active₀) (number_at active₀) 256 (a * 16) active
  pub waits : HalfCol (new_waiting k named records waiting₀) (number_at waiting₀) 16 a waiting

-- a caller that runs the loop over its state has the actions of the rules
module _ (g : Gateway) {k : Change} {named : List Bool} {ws : List ℕ} {n : ℕ} {active waiting : List ℕ} {ws' : List ℕ} {r : ℕ} where
  pub ran_actions : Ran k named (record_of g) g.held.count g.held.id g.active g.waiting ws n active waiting ws' r → Written ws n (all_actions g k named) ws' r
  unfolding all_actions
  ran_actions h = h.wrote
