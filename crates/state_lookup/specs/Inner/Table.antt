-- What the search for identifiers needs of the links; a sound state has it.
-- Assumes nothing.
use Rattle.std.specs.Prelude.{ℕ, ◌≤◌, ◌≡◌, true, List}
use Rattle.state_tables.specs.Sound.{ascends, all_under}
use Rattle.state_lookup.specs.declared.links.Links.{Links}

-- few, ascending, their owners within the table of pairs
pub record Table (iid owner : List ℕ) (links : ℕ) : Type 0 where
  pub few : links ≤ 128
  pub order : ascends iid links ≡ true
  pub owned : all_under owner 16 links ≡ true

-- the struct has it
pub table_of : (t : Links) → Table t.ids.iid.now t.owner.now t.ids.count
table_of t = record { few = t.ids.few; order = t.ids.order; owned = t.owned }
